-- What an expression is worth, in whole numbers, and where it has no value.
use Rattle.std.specs.Prelude.{ℕ, ◌^◌, Bool, true, false, not, nat_lt, if◌then◌else◌, ℤ, pos, negsuc, ◌+ℤ◌, ◌-ℤ◌, ◌*ℤ◌, neg_ℤ, int_lt, int_le, List, Option, Some, None}
use Rattle.std.specs.Ordering.{int_eq}
use Rattle.gt_types.specs.declared.expressions.Base.{Base}
use Rattle.gt_types.specs.declared.expressions.Op.{Op}
use Rattle.gt_types.specs.declared.expressions.Expr.{Expr}
use Rattle.gt_types.specs.declared.expressions.Expr.TheOpen.{Expr-F, Int, Path, Root, One, Two, Cond}
use Rattle.gt_types.specs.declared.expressions.Expr.TheFolds.{fold-Expr}
use Rattle.gt_types.specs.declared.expressions.Op.TheVariants.{Neg, Not, Add, Sub, Mul, Lt, Le, Gt, Ge, Eq, Ne, And, Or}

-- whether a number is from -2^63 to 2^63 - 1; `negsuc n` is -(n + 1)
abbrev pub fits_i64 : ℤ → Bool
fits_i64 (pos n) = nat_lt n (2 ^ 63)
fits_i64 (negsuc n) = nat_lt n (2 ^ 63)

-- a number that an i64 holds; another is no value
abbrev pub within_i64 : ℤ → Option ℤ
within_i64 n = if fits_i64 n then Some n else None

-- truth is 1 and 0
abbrev pub number_of : Bool → ℤ
number_of true = pos 1
number_of false = pos 0

-- every number but 0 is true
abbrev pub is_nonzero : ℤ → Bool
is_nonzero n = not (int_eq n (pos 0))

-- a value that is needed: without it there is none
infixl 10 ◌>>=◌
abbrev pub ◌>>=◌ : Option ℤ → (ℤ → Option ℤ) → Option ℤ
None >>= f = None
(Some n) >>= f = f n

-- an operator of one operand on its value
abbrev pub value_of_one : Op → ℤ → Option ℤ
value_of_one Neg a = within_i64 (neg_ℤ a)
value_of_one Not a = Some (number_of (not (is_nonzero a)))
value_of_one _ a = None

-- an operator that needs both operands, on their values
abbrev pub value_of_two : Op → ℤ → ℤ → Option ℤ
value_of_two Add a b = within_i64 (a +ℤ b)
value_of_two Sub a b = within_i64 (a -ℤ b)
value_of_two Mul a b = within_i64 (a *ℤ b)
value_of_two Lt a b = Some (number_of (int_lt a b))
value_of_two Le a b = Some (number_of (int_le a b))
value_of_two Gt a b = Some (number_of (int_lt b a))
value_of_two Ge a b = Some (number_of (int_le b a))
value_of_two Eq a b = Some (number_of (int_eq a b))
value_of_two Ne a b = Some (number_of (not (int_eq a b)))
value_of_two _ a b = None

-- an operator of two operands: `&&` needs the second where the first is true, `||` where it is not, another always
abbrev pub joined : Op → Option ℤ → Option ℤ → Option ℤ
joined And first second = do
  a ← first
  if is_nonzero a then (second >>= λ b. Some (number_of (is_nonzero b))) else Some (pos 0)
joined Or first second = do
  a ← first
  if is_nonzero a then Some (pos 1) else (second >>= λ b. Some (number_of (is_nonzero b)))
joined op first second = do
  a ← first
  b ← second
  value_of_two op a b

-- what one part of an expression is worth, by what its operands are worth
abbrev pub value_step : (Base → List (List ℕ) → Option ℤ) → (ℕ → Option ℤ) → Expr-F (Option ℤ) → Option ℤ
value_step leaf root (Int n) = Some n
value_step leaf root (Path base steps) = leaf base steps
value_step leaf root (Root i) = root i
value_step leaf root (One op a) = a >>= value_of_one op
value_step leaf root (Two op a b) = joined op a b
value_step leaf root (Cond test a b) = test >>= λ t. if is_nonzero t then a else b

-- what an expression is worth, by what each leaf and each root is worth: none where a part that is needed has no value
abbrev pub value_of : (Base → List (List ℕ) → Option ℤ) → (ℕ → Option ℤ) → Expr → Option ℤ
value_of leaf root = fold-Expr (Option ℤ) (value_step leaf root)
