-- What the grammar gives is read: the parts that stand for a tree are read as that tree, whatever may follow it.
use Rattle.std.proofs.Common.{◌≡◌, ℕ, zero, suc, ℤ, ◌-◌, ◌≤◌, ◌<◌, false, eqb, List, [], ◌∷◌, ◌++◌, length, Some, None, refl, sym, ap, ◌∙◌, append_assoc, arith}
use Rattle.std.proofs.lemmas.Bool.{eq-eqb, ne_eqb}
use Rattle.std.proofs.lemmas.List.{append-nil, length-append}
use Rattle.gt_types.specs.declared.expressions.Base.{Base}
use Rattle.gt_types.specs.declared.expressions.Op.{Op}
use Rattle.gt_types.specs.declared.expressions.Op.TheVariants.{Neg, Not, Sub}
use Rattle.gt_expr.specs.declared.part.Part.{Part}
use Rattle.gt_expr.specs.declared.part.Part.TheVariants.{Integer, Name, Operator, Question, Colon, Dot, Open, Close}
use Rattle.gt_expr.specs.declared.part.Line.{Line}
use Rattle.gt_expr.specs.declared.part.Line.TheVariants.{Conditional, Level}
use Rattle.gt_expr.specs.declared.raw.RawExpr.{RawExpr}
use Rattle.gt_expr.specs.declared.raw.RawExpr.TheVariants.{Int, Path, Named, One, Two, Cond}
use Rattle.gt_expr.specs.Grammar.{level_of, IsPlace, at_base, in_brackets, with_step, Derives, no_choice, choice, operand, operation, negated, negative, integer, named, place, bracketed}
use Rattle.gt_expr.specs.Reading.{Reading, operator_at, more_at, level_at, steps_at, with_steps, unary_at, branches_at, line_at, tree_at, tree_of}
use Rattle.gt_expr.proofs.Lines.{line_at_level, more_at_ends}

-- ---- what may follow

-- no step of a path
record NoStep (rest : List Part) : Type 0 where
  steps : (steps_at rest).0 ≡ []
  following : (steps_at rest).1 ≡ rest

-- no step and no operator of the levels up to this one
Stops : ℕ → List Part → Type 0
Stops zero rest = NoStep rest
Stops (suc level) rest = Stops level rest × (operator_at (suc level) rest ≡ None)

-- no choice either
abbrev NoChoice : List Part → Type 0
NoChoice rest = (deeper : Line → List Part → Reading) (test : RawExpr) → branches_at deeper test rest ≡ Some (test, rest)

abbrev After : Line → List Part → Type 0
After (Level level) rest = Stops level rest
After Conditional rest = Stops 6 rest × NoChoice rest

-- an operator may follow its operand
Stops-operator : (op : Op) (ps : List Part) (level n : ℕ) → level < n → level_of op ≡ n → Stops level (Operator op ∷ ps)
unfolding Stops
Stops-operator op ps zero n h e = record { steps = refl; following = refl }
Stops-operator op ps (suc level) n h e =
    let other : eqb (level_of op) (suc level) ≡ false = ne_eqb _ _ (λ same. omega arith) in
    (Stops-operator op ps level n (omega arith) e, rw other refl)

Stops-end : Stops 6 []
unfolding Stops
Stops-end = (((((((record { steps = refl; following = refl }, refl), refl), refl), refl), refl), refl))

Stops-question : (ps : List Part) → Stops 6 (Question ∷ ps)
unfolding Stops
Stops-question ps = (((((((record { steps = refl; following = refl }, refl), refl), refl), refl), refl), refl))

Stops-colon : (ps : List Part) → Stops 6 (Colon ∷ ps)
unfolding Stops
Stops-colon ps = (((((((record { steps = refl; following = refl }, refl), refl), refl), refl), refl), refl))

Stops-close : (ps : List Part) → Stops 6 (Close ∷ ps)
unfolding Stops
Stops-close ps = (((((((record { steps = refl; following = refl }, refl), refl), refl), refl), refl), refl))

-- ---- paths

given : RawExpr → List Part → Reading
given t rest = Some (t, rest)

with_steps-none : (t : RawExpr) (rest : List Part) → NoStep rest → ◌≡◌ {A = Reading} (Some (with_steps t rest)) (Some (t, rest))
with_steps-none (Path base steps) rest none =
    let all : steps ++ (steps_at rest).0 ≡ steps = ap (λ (ss : List (List ℕ)). steps ++ ss) none.steps ∙ append-nil steps in
    rw (all, none.following) refl
with_steps-none t rest none = refl

-- a level of one operand
level_alone : (unary : List Part → Reading) (level : ℕ) (ps : List Part) (t : RawExpr) (rest : List Part) → unary ps ≡ Some (t, rest) → Stops level rest → level_at unary level ps ≡ Some (t, rest)
unfolding level_at Stops
level_alone unary zero ps t rest e stops = e
level_alone unary (suc level) ps t rest e stops =
    rw (level_alone unary level ps t rest e stops.0) (more_at_ends _ (suc level) (length rest) t rest stops.1)

-- a conditional with no operator and no choice
conditional_alone : (n : ℕ) (ps : List Part) (t : RawExpr) (rest : List Part) → level_at (unary_at (tree_at n)) 6 ps ≡ Some (t, rest) → NoChoice rest
    → tree_at (suc n) Conditional ps ≡ Some (t, rest)
unfolding line_at tree_at
conditional_alone n ps t rest e none = rw e (none (tree_at n) t)

-- a tree in brackets
brackets_again : (n : ℕ) (ps : List Part) (t : RawExpr) (rest : List Part) → tree_at n Conditional (ps ++ Close ∷ rest) ≡ Some (t, Close ∷ rest)
    → unary_at (tree_at n) (Open ∷ ps ++ Close ∷ [] ++ rest) ≡ Some (with_steps t rest)
unfolding unary_at
brackets_again n ps t rest e = rw (append_assoc ps (Close ∷ []) rest, e) refl

place_again : {ps : List Part} {base : Base} {steps : List (List ℕ)} → IsPlace ps base steps → (n : ℕ) → length ps ≤ n → (rest : List Part)
    → unary_at (tree_at n) (ps ++ rest) ≡ Some (with_steps (Path base steps) rest)
unfolding unary_at
place_again at_base n h rest = refl
place_again (in_brackets {ps} {base} {steps} p) zero h rest = absurd (omega arith)
place_again (in_brackets {ps} {base} {steps} p) (suc n) h rest =
    let inner : unary_at (tree_at n) (ps ++ Close ∷ rest) ≡ Some (Path base steps, Close ∷ rest) =
    place_again p n (omega (arith, length-append ps (Close ∷ []))) (Close ∷ rest) ∙ with_steps-none (Path base steps) (Close ∷ rest) (record { steps = refl; following = refl }) in
    let alone = level_alone (unary_at (tree_at n)) 6 (ps ++ Close ∷ rest) (Path base steps) (Close ∷ rest) inner (Stops-close rest) in
    brackets_again (suc n) ps (Path base steps) rest (conditional_alone n (ps ++ Close ∷ rest) (Path base steps) (Close ∷ rest) alone (λ deeper test. refl))
place_again (with_step {ps} {base} {steps} name p) n h rest =
    ap (λ (qs : List Part). unary_at (tree_at n) qs) (append_assoc ps (Dot ∷ Name name ∷ []) rest)
    ∙ place_again p n (omega (arith, length-append ps (Dot ∷ Name name ∷ []))) (Dot ∷ Name name ∷ rest)
    ∙ ap (λ (ss : List (List ℕ)). Some (Path base ss, (steps_at rest).1)) (sym (append_assoc steps (name ∷ []) (steps_at rest).0))

-- ---- trees

-- the line reads the parts as the tree, whatever may follow
Reads : ℕ → Line → List Part → RawExpr → Type 0
Reads n line ps t = (rest : List Part) → After line rest → line_at (tree_at n) line (ps ++ rest) ≡ Some (t, rest)

-- a level comes to the tree, with turns enough for what follows
record Comes (n level : ℕ) (ps : List Part) (t : RawExpr) (rest : List Part) : Type 0 where
  turns : ℕ
  enough : length rest ≤ turns
  here : level_at (unary_at (tree_at n)) (suc level) (ps ++ rest) ≡ more_at (level_at (unary_at (tree_at n)) level) (suc level) turns t rest

Chains : ℕ → Line → List Part → RawExpr → Type 0
Chains n (Level zero) ps t = Unit {0}
Chains n (Level (suc level)) ps t = (rest : List Part) → Stops level rest → Comes n level ps t rest
Chains n Conditional ps t = Unit {0}

-- a level whose operands are read
operand_chains : (n level : ℕ) (ps : List Part) (t : RawExpr) → Reads n (Level level) ps t → Chains n (Level (suc level)) ps t
unfolding Reads Chains line_at level_at
operand_chains n level ps t reads rest stops =
    record { turns = length rest; enough = omega arith; here = rw (reads rest stops) refl }

level_reads : (n level : ℕ) (ps : List Part) (t : RawExpr) → Chains n (Level (suc level)) ps t → Reads n (Level (suc level)) ps t
unfolding Reads Chains line_at Stops
level_reads n level ps t chains rest stops =
    let comes = chains rest stops.0 in
    comes.here ∙ more_at_ends _ (suc level) comes.turns t rest stops.1

operator_is : (op : Op) (level : ℕ) (ps : List Part) → level_of op ≡ level → operator_at level (Operator op ∷ ps) ≡ Some (op, ps)
operator_is op level ps e = rw (eq-eqb _ _ e) refl

-- one turn
turn : (reader : List Part → Reading) (level turns : ℕ) (a b : RawExpr) (op : Op) (ps qs rest : List Part) → operator_at level ps ≡ Some (op, qs) → reader qs ≡ Some (b, rest)
    → more_at reader level (suc turns) a ps ≡ more_at reader level turns (Two op a b) rest
unfolding more_at
turn reader level turns a b op ps qs rest found right = rw (found, right) refl

operation_comes : (n level : ℕ) (xs ys : List Part) (op : Op) (a b : RawExpr) (rest : List Part) → level_of op ≡ suc level → level_at (unary_at (tree_at n)) level (ys ++ rest) ≡ Some (b, rest)
    → Comes n level xs a (Operator op ∷ ys ++ rest) → Comes n level (xs ++ Operator op ∷ ys) (Two op a b) rest
operation_comes n level xs ys op a b rest e right comes =
    let fewer : comes.turns ≡ suc (comes.turns - 1) = omega arith in
    record {
      turns = comes.turns - 1;
      enough = omega (arith, length-append ys rest, comes.enough);
      here = ap (λ (qs : List Part). level_at (unary_at (tree_at n)) (suc level) qs) (append_assoc xs (Operator op ∷ ys) rest)
          ∙ comes.here
          ∙ ap (λ (count : ℕ). more_at (level_at (unary_at (tree_at n)) level) (suc level) count a (Operator op ∷ ys ++ rest)) fewer
          ∙ turn (level_at (unary_at (tree_at n)) level) (suc level) (comes.turns - 1) a b op (Operator op ∷ ys ++ rest) (ys ++ rest) rest (operator_is op (suc level) (ys ++ rest) e) right;
    }

operation_chains : (n level : ℕ) (xs ys : List Part) (op : Op) (a b : RawExpr) → level_of op ≡ suc level → Chains n (Level (suc level)) xs a → Reads n (Level level) ys b
    → Chains n (Level (suc level)) (xs ++ Operator op ∷ ys) (Two op a b)
unfolding Chains Reads line_at
operation_chains n level xs ys op a b e chains reads rest stops =
    operation_comes n level xs ys op a b rest e (reads rest stops)
    (chains (Operator op ∷ ys ++ rest) (Stops-operator op (ys ++ rest) level (suc level) (omega arith) e))

-- a choice
choice_steps : (deeper : Line → List Part → Reading) (ps qs rs rest : List Part) (test first second : RawExpr) → level_at (unary_at deeper) 6 ps ≡ Some (test, Question ∷ qs)
    → deeper Conditional qs ≡ Some (first, Colon ∷ rs) → deeper Conditional rs ≡ Some (second, rest) → line_at deeper Conditional ps ≡ Some (Cond test first second, rest)
unfolding line_at
choice_steps deeper ps qs rs rest test first second a b c = rw (a, b, c) refl

-- a line that stands one deeper
deeper_is : (n : ℕ) (line : Line) (ps : List Part) → tree_at (suc n) line ps ≡ line_at (tree_at n) line ps
unfolding tree_at
deeper_is n line ps = refl

choice_reads : (n : ℕ) (xs ys zs : List Part) (test first second : RawExpr) → Reads (suc n) (Level 6) xs test → Reads n Conditional ys first → Reads n Conditional zs second
    → Reads (suc n) Conditional (xs ++ Question ∷ ys ++ Colon ∷ zs) (Cond test first second)
unfolding Reads
choice_reads n xs ys zs test first second x y z rest after =
    let rs = zs ++ rest in
    let qs = ys ++ (Colon ∷ rs) in
    let flat : xs ++ Question ∷ ys ++ Colon ∷ zs ++ rest ≡ xs ++ (Question ∷ qs) =
    append_assoc (xs ++ Question ∷ ys) (Colon ∷ zs) rest ∙ append_assoc xs (Question ∷ ys) (Colon ∷ rs) in
    ap (λ (ps : List Part). line_at (tree_at (suc n)) Conditional ps) flat
    ∙ choice_steps (tree_at (suc n)) (xs ++ (Question ∷ qs)) qs rs rest test first second
    (sym (line_at_level (tree_at (suc n)) 6 (xs ++ (Question ∷ qs))) ∙ x (Question ∷ qs) (Stops-question qs))
    (deeper_is n Conditional qs ∙ y (Colon ∷ rs) (Stops-colon rs, λ deeper t. refl))
    (deeper_is n Conditional rs ∙ z rest after)

no_choice_reads : (n : ℕ) (ps : List Part) (t : RawExpr) → Reads n (Level 6) ps t → Reads n Conditional ps t
unfolding Reads line_at
no_choice_reads n ps t x rest after = rw (x rest after.0) (after.1 (tree_at n) t)

-- unaries
negated_reads : (n : ℕ) (ps : List Part) (a : RawExpr) → Reads n (Level 0) ps a → Reads (suc n) (Level 0) (Operator Not ∷ ps) (One Not a)
unfolding Reads line_at level_at unary_at
negated_reads n ps a x rest stops =
    let under : tree_at (suc n) (Level 0) (ps ++ rest) ≡ Some (a, rest) = deeper_is n (Level 0) (ps ++ rest) ∙ x rest stops in
    rw under refl

negative_reads : (n : ℕ) (ps : List Part) (a : RawExpr) → Reads n (Level 0) ps a → Reads (suc n) (Level 0) (Operator Sub ∷ ps) (One Neg a)
unfolding Reads line_at level_at unary_at
negative_reads n ps a x rest stops =
    let under : tree_at (suc n) (Level 0) (ps ++ rest) ≡ Some (a, rest) = deeper_is n (Level 0) (ps ++ rest) ∙ x rest stops in
    rw under refl

integer_reads : (n : ℕ) (value : ℤ) → Reads n (Level 0) (Integer value ∷ []) (Int value)
unfolding Reads line_at level_at unary_at
integer_reads n value rest stops = refl

named_reads : (n : ℕ) (name : List ℕ) → Reads n (Level 0) (Name name ∷ []) (Named name)
unfolding Reads line_at level_at unary_at
named_reads n name rest stops = refl

place_reads : (n : ℕ) (ps : List Part) (base : Base) (steps : List (List ℕ)) → IsPlace ps base steps → length ps ≤ n → Reads n (Level 0) ps (Path base steps)
unfolding Reads line_at level_at Stops
place_reads n ps base steps p h rest stops = place_again p n h rest ∙ with_steps-none (Path base steps) rest stops

bracketed_reads : (n : ℕ) (ps : List Part) (t : RawExpr) → Reads n Conditional ps t → Reads (suc n) (Level 0) (Open ∷ ps ++ Close ∷ []) t
unfolding Reads line_at level_at Stops
bracketed_reads n ps t x rest stops =
    brackets_again (suc n) ps t rest (deeper_is n Conditional (ps ++ Close ∷ rest) ∙ x (Close ∷ rest) (Stops-close rest, λ deeper u. refl)) ∙ with_steps-none t rest stops

-- ---- the whole

record Again (n : ℕ) (line : Line) (ps : List Part) (t : RawExpr) : Type 0 where
  reads : Reads n line ps t
  chains : Chains n line ps t

unary_again : (n : ℕ) (ps : List Part) (t : RawExpr) → Reads n (Level 0) ps t → Again n (Level 0) ps t
unfolding Chains
unary_again n ps t x = record { reads = x; chains = tt }

conditional_again : (n : ℕ) (ps : List Part) (t : RawExpr) → Reads n Conditional ps t → Again n Conditional ps t
unfolding Chains
conditional_again n ps t x = record { reads = x; chains = tt }

level_again : (n level : ℕ) (ps : List Part) (t : RawExpr) → Chains n (Level (suc level)) ps t → Again n (Level (suc level)) ps t
level_again n level ps t x = record { reads = level_reads n level ps t x; chains = x }

again : {line : Line} {ps : List Part} {t : RawExpr} → Derives line ps t → (n : ℕ) → length ps ≤ n → Again n line ps t
again (no_choice {ps} {t} d) n h = conditional_again n ps t (no_choice_reads n ps t (again d n h).reads)
again (choice {xs} {ys} {zs} {test} {first} {second} a b c) zero h = absurd (omega (arith, length-append (xs ++ Question ∷ ys) (Colon ∷ zs)))
again (choice {xs} {ys} {zs} {test} {first} {second} a b c) (suc n) h =
    let long = length-append (xs ++ Question ∷ ys) (Colon ∷ zs) in
    let front = length-append xs (Question ∷ ys) in
    conditional_again (suc n) _ _
    (choice_reads n xs ys zs test first second (again a (suc n) (omega (arith, long, front))).reads (again b n (omega (arith, long, front))).reads (again c n (omega (arith, long, front))).reads)
again (operand {level} {ps} {t} d) n h = level_again n level ps t (operand_chains n level ps t (again d n h).reads)
again (operation {level} {xs} {ys} {op} {a} {b} e x y) n h =
    let long = length-append xs (Operator op ∷ ys) in
    level_again n level _ _ (operation_chains n level xs ys op a b e (again x n (omega (arith, long))).chains (again y n (omega (arith, long))).reads)
again (negated {ps} {a} d) zero h = absurd (omega arith)
again (negated {ps} {a} d) (suc n) h = unary_again (suc n) _ _ (negated_reads n ps a (again d n (omega arith)).reads)
again (negative {ps} {a} d) zero h = absurd (omega arith)
again (negative {ps} {a} d) (suc n) h = unary_again (suc n) _ _ (negative_reads n ps a (again d n (omega arith)).reads)
again (integer {value}) n h = unary_again n _ _ (integer_reads n value)
again (named {name}) n h = unary_again n _ _ (named_reads n name)
again (place {ps} {base} {steps} p) n h = unary_again n _ _ (place_reads n ps base steps p h)
again (bracketed {ps} {t} d) zero h = absurd (omega arith)
again (bracketed {ps} {t} d) (suc n) h = unary_again (suc n) _ _ (bracketed_reads n ps t (again d n (omega (arith, length-append ps (Close ∷ [])))).reads)

-- the parts that the grammar gives for a tree are read as that tree
pub derived-tree_of : (ps : List Part) (t : RawExpr) → Derives Conditional ps t → tree_of ps ≡ Some t
unfolding tree_of Reads
derived-tree_of ps t d =
    let whole = (again d (length ps) (omega arith)).reads [] (Stops-end, λ deeper u. refl) in
    let read : line_at (tree_at (length ps)) Conditional ps ≡ Some (t, []) = ap (λ (qs : List Part). line_at (tree_at (length ps)) Conditional qs) (sym (append-nil ps)) ∙ whole in
    rw read refl
