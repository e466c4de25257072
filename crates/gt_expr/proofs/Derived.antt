-- What is read is derived: the grammar gives the parts that a reader took, and their tree.
use Rattle.std.proofs.Common.{◌≡◌, ℕ, zero, suc, eqb, List, [], ◌∷◌, ◌++◌, length, Option, Some, None, refl, sym, ap, ◌∙◌, append_assoc}
use Rattle.std.proofs.lemmas.Bool.{eqb-true}
use Rattle.std.proofs.lemmas.List.{append-nil}
use Rattle.std.proofs.lemmas.Option.{some_pair_parts, cond_some}
use Rattle.std.specs.Option.{option_map_or}
use Rattle.gt_types.specs.declared.expressions.Base.{Base}
use Rattle.gt_types.specs.declared.expressions.Op.{Op}
use Rattle.gt_types.specs.declared.expressions.Op.TheVariants.{Neg, Not, Sub}
use Rattle.gt_expr.specs.declared.part.Part.{Part}
use Rattle.gt_expr.specs.declared.part.Part.TheVariants.{Integer, Name, Percent, Operator, Question, Colon, Dot, Open, Close}
use Rattle.gt_expr.specs.declared.part.Line.{Line}
use Rattle.gt_expr.specs.declared.part.Line.TheVariants.{Conditional, Level}
use Rattle.gt_expr.specs.declared.raw.RawExpr.{RawExpr}
use Rattle.gt_expr.specs.declared.raw.RawExpr.TheVariants.{Int, Path, Named, One, Two, Cond}
use Rattle.gt_expr.specs.Grammar.{level_of, IsPlace, at_base, in_brackets, with_step, Derives, no_choice, choice, operand, operation, negated, negative, integer, named, place, bracketed}
use Rattle.gt_expr.specs.Reading.{Reading, ◌>>=◌, operator_at, more_at, level_at, steps_at, with_steps, closed_at, unary_at, no_at, branches_at, line_at, tree_at, whole_of, tree_of}

-- a reader took parts from the front, and the grammar gives them and their tree
pub record Takes (line : Line) (ps : List Part) (t : RawExpr) (rest : List Part) : Type 0 where
  pub front : List Part
  pub parts : ps ≡ front ++ rest
  pub derived : Derives line front t

abbrev pub IsSound : Line → (List Part → Reading) → Type 0
IsSound line reader = (ps : List Part) (t : RawExpr) (rest : List Part) → reader ps ≡ Some (t, rest) → Takes line ps t rest

-- the value of a step that gave one
bind_some : {A B : Type 0} (r : Option A) (f : A → Option B) (y : B) → (r >>= f) ≡ Some y → (x : A) × (r ≡ Some x) × (f x ≡ Some y)
bind_some (Some x) f y e = (x, refl, e)
bind_some None f y e = absurd cc

-- what a reader gave is a tree and parts that are known
Takes-same : {line : Line} {ps : List Part} (t u : RawExpr) (rest following : List Part) → ◌≡◌ {A = Reading} (Some (t, rest)) (Some (u, following)) → Takes line ps t rest → Takes line ps u following
Takes-same t u rest following e taken = let same = some_pair_parts t u rest following e in rw (← same.0, ← same.1) taken

-- ---- paths

-- a tree that is a path was written as a place, maybe in brackets
path_place : {line : Line} {ps : List Part} {t : RawExpr} → Derives line ps t → (base : Base) (steps : List (List ℕ)) → t ≡ Path base steps → IsPlace ps base steps
path_place (no_choice d) base steps e = path_place d base steps e
path_place (choice a b c) base steps e = absurd cc
path_place (operand d) base steps e = path_place d base steps e
path_place (operation h a b) base steps e = absurd cc
path_place (negated d) base steps e = absurd cc
path_place (negative d) base steps e = absurd cc
path_place integer base steps e = absurd cc
path_place named base steps e = absurd cc
path_place (place {base = b} {steps = ss} p) base steps e =
    let same_base : b ≡ base = cc in
    let same_steps : ss ≡ steps = cc in
    rw (← same_base, ← same_steps) p
path_place (bracketed d) base steps e = in_brackets (path_place d base steps e)

-- the steps that stand at the front join a place
record StepsTaken (before : List Part) (base : Base) (steps : List (List ℕ)) (ps : List Part) : Type 0 where
  front : List Part
  parts : ps ≡ front ++ (steps_at ps).1
  is_place : IsPlace (before ++ front) base (steps ++ (steps_at ps).0)

no_steps : (before : List Part) (base : Base) (steps : List (List ℕ)) → IsPlace before base steps → IsPlace (before ++ []) base (steps ++ [])
no_steps before base steps p = rw (append-nil before, append-nil steps) p

steps_take : (before : List Part) (base : Base) (steps : List (List ℕ)) (ps : List Part) → IsPlace before base steps → StepsTaken before base steps ps
steps_take before base steps (Dot ∷ Name name ∷ ps) p =
    let more = steps_take (before ++ Dot ∷ Name name ∷ []) base (steps ++ name ∷ []) ps (with_step name p) in
    record {
      front = Dot ∷ Name name ∷ more.front;
      parts = ap (λ (qs : List Part). Dot ∷ Name name ∷ qs) more.parts;
      is_place = rw (← append_assoc before (Dot ∷ Name name ∷ []) more.front, ← append_assoc steps (name ∷ []) ((steps_at ps).0)) more.is_place;
    }
steps_take before base steps ps p = record { front = []; parts = refl; is_place = no_steps before base steps p }

-- ---- brackets

-- a tree in brackets, and the steps after it where it is a path
with_steps_take : (inner : List Part) (t : RawExpr) (ps : List Part) → Derives Conditional inner t → Takes (Level 0) (Open ∷ inner ++ Close ∷ ps) (with_steps t ps).0 (with_steps t ps).1
with_steps_take inner (Path base steps) ps d =
    let more = steps_take (Open ∷ inner ++ Close ∷ []) base steps ps (in_brackets (path_place d base steps refl)) in
    record {
      front = Open ∷ inner ++ Close ∷ [] ++ more.front;
      parts = ap (λ (qs : List Part). Open ∷ inner ++ Close ∷ qs) more.parts ∙ sym (append_assoc (Open ∷ inner ++ Close ∷ []) more.front (steps_at ps).1 ∙ append_assoc (Open ∷ inner) (Close ∷ []) (more.front ++ (steps_at ps).1));
      derived = place more.is_place;
    }
with_steps_take inner t ps d =
    record { front = Open ∷ inner ++ Close ∷ []; parts = sym (append_assoc (Open ∷ inner) (Close ∷ []) ps); derived = bracketed d }

closed_takes : (inner : List Part) (u : RawExpr) (following : List Part) (t : RawExpr) (rest : List Part) → Derives Conditional inner u → closed_at u following ≡ Some (t, rest)
    → Takes (Level 0) (Open ∷ inner ++ following) t rest
closed_takes inner u (Close ∷ ps) t rest d e = Takes-same _ t _ rest e (with_steps_take inner u ps d)
closed_takes inner u ps t rest d e = absurd cc

-- ---- unaries

module _ (deeper : Line → List Part → Reading) (sound : (line : Line) → IsSound line (deeper line)) where
  unary_takes : IsSound (Level 0) (unary_at deeper)
  unfolding unary_at
  unary_takes (Operator Not ∷ ps) t rest e =
      let a = bind_some (deeper (Level 0) ps) _ (t, rest) e in
      let under = sound (Level 0) ps a.0.0 a.0.1 a.1 in
      Takes-same (One Not a.0.0) t a.0.1 rest a.2 (record { front = Operator Not ∷ under.front; parts = ap (λ (qs : List Part). Operator Not ∷ qs) under.parts; derived = negated under.derived })
  unary_takes (Operator Sub ∷ ps) t rest e =
      let a = bind_some (deeper (Level 0) ps) _ (t, rest) e in
      let under = sound (Level 0) ps a.0.0 a.0.1 a.1 in
      Takes-same (One Neg a.0.0) t a.0.1 rest a.2 (record { front = Operator Sub ∷ under.front; parts = ap (λ (qs : List Part). Operator Sub ∷ qs) under.parts; derived = negative under.derived })
  unary_takes (Integer value ∷ ps) t rest e = Takes-same (Int value) t ps rest e (record { front = Integer value ∷ []; parts = refl; derived = integer })
  unary_takes (Name name ∷ ps) t rest e = Takes-same (Named name) t ps rest e (record { front = Name name ∷ []; parts = refl; derived = named })
  unary_takes (Percent base ∷ ps) t rest e =
      let more = steps_take (Percent base ∷ []) base [] ps at_base in
      Takes-same _ t _ rest e (record { front = Percent base ∷ more.front; parts = ap (λ (qs : List Part). Percent base ∷ qs) more.parts; derived = place more.is_place })
  unary_takes (Open ∷ ps) t rest e =
      let a = bind_some (deeper Conditional ps) _ (t, rest) e in
      let inner = sound Conditional ps a.0.0 a.0.1 a.1 in
      let taken = closed_takes inner.front a.0.0 a.0.1 t rest inner.derived a.2 in
      record { front = taken.front; parts = ap (λ (qs : List Part). Open ∷ qs) inner.parts ∙ taken.parts; derived = taken.derived }
  unary_takes ps t rest e = absurd cc

-- ---- levels

-- the operator at the front is of the level
operator_at_some : (level : ℕ) (ps : List Part) (op : Op) (after : List Part) → operator_at level ps ≡ Some (op, after) → (ps ≡ Operator op ∷ after) × (level_of op ≡ level)
operator_at_some level (Operator o ∷ ps) op after e =
    let found = cond_some (eqb (level_of o) level) (o, ps) (op, after) e in
    let same = some_pair_parts o op ps after (ap (λ (x : Op × List Part). Some x) found.1) in
    (rw (← same.0, ← same.1) refl, rw (← same.0) (eqb-true _ _ found.0))
operator_at_some level ps op after e = absurd cc

module _ (reader : List Part → Reading) (level : ℕ) (sound : IsSound (Level level) reader) where
  -- operators and operands join a tree that was derived before
  record Joins (before : List Part) (ps : List Part) (t : RawExpr) (rest : List Part) : Type 0 where
    front : List Part
    parts : ps ≡ front ++ rest
    derived : Derives (Level (suc level)) (before ++ front) t

  nothing_joins : (before : List Part) (left : RawExpr) (ps : List Part) (t : RawExpr) (rest : List Part) → Derives (Level (suc level)) before left
      → ◌≡◌ {A = Reading} (Some (left, ps)) (Some (t, rest)) → Joins before ps t rest
  nothing_joins before left ps t rest d e =
      let same = some_pair_parts left t ps rest e in
      record { front = []; parts = same.1; derived = rw (append-nil before, ← same.0) d }

  abbrev Goes : ℕ → Type 0
  Goes count = (before : List Part) (left : RawExpr) (ps : List Part) (t : RawExpr) (rest : List Part) → Derives (Level (suc level)) before left
      → more_at reader (suc level) count left ps ≡ Some (t, rest) → Joins before ps t rest

  turn_takes : (count : ℕ) → Goes count → (before : List Part) (left : RawExpr) (ps : List Part) (t : RawExpr) (rest : List Part) (found : Option (Op × List Part)) → Derives (Level (suc level)) before left
      → operator_at (suc level) ps ≡ found
      → option_map_or (λ f. reader f.1 >>= λ right. more_at reader (suc level) count (Two f.0 left right.0) right.1) found (Some (left, ps)) ≡ Some (t, rest)
      → Joins before ps t rest
  turn_takes count again before left ps t rest None d h e = nothing_joins before left ps t rest d e
  turn_takes count again before left ps t rest (Some found) d h e =
      let op = found.0 in
      let o = operator_at_some (suc level) ps op found.1 h in
      let a = bind_some (reader found.1) _ (t, rest) e in
      let right = sound found.1 a.0.0 a.0.1 a.1 in
      let next = again (before ++ Operator op ∷ right.front) (Two op left a.0.0) a.0.1 t rest (operation o.1 d right.derived) a.2 in
      record {
        front = Operator op ∷ right.front ++ next.front;
        parts = o.0 ∙ ap (λ (qs : List Part). Operator op ∷ qs) (right.parts ∙ ap (λ (qs : List Part). right.front ++ qs) next.parts ∙ sym (append_assoc right.front next.front rest));
        derived = rw (← append_assoc before (Operator op ∷ right.front) next.front) next.derived;
      }

  more_takes : (count : ℕ) → Goes count
  unfolding more_at
  more_takes zero before left ps t rest d e = nothing_joins before left ps t rest d e
  more_takes (suc count) before left ps t rest d e =
      turn_takes count (more_takes count) before left ps t rest (operator_at (suc level) ps) d refl e

level_takes : (unary : List Part → Reading) → IsSound (Level 0) unary → (level : ℕ) → IsSound (Level level) (level_at unary level)
unfolding level_at
level_takes unary sound zero ps t rest e = sound ps t rest e
level_takes unary sound (suc level) ps t rest e =
    let a = bind_some (level_at unary level ps) _ (t, rest) e in
    let first = level_takes unary sound level ps a.0.0 a.0.1 a.1 in
    let more = more_takes (level_at unary level) level (level_takes unary sound level) (length a.0.1) first.front a.0.0 a.0.1 t rest (operand first.derived) a.2 in
    record {
      front = first.front ++ more.front;
      parts = first.parts ∙ ap (λ (qs : List Part). first.front ++ qs) more.parts ∙ sym (append_assoc first.front more.front rest);
      derived = more.derived;
    }

-- ---- conditionals

module _ (deeper : Line → List Part → Reading) (sound : (line : Line) → IsSound line (deeper line)) where
  no_takes : (xs ys : List Part) (test one : RawExpr) (ps : List Part) (t : RawExpr) (rest : List Part) → Derives (Level 6) xs test → Derives Conditional ys one
      → no_at deeper test one ps ≡ Some (t, rest) → Takes Conditional (xs ++ Question ∷ ys ++ ps) t rest
  no_takes xs ys test one (Colon ∷ ps) t rest x y e =
      let a = bind_some (deeper Conditional ps) _ (t, rest) e in
      let last = sound Conditional ps a.0.0 a.0.1 a.1 in
      Takes-same (Cond test one a.0.0) t a.0.1 rest a.2
      (record {
        front = xs ++ Question ∷ ys ++ Colon ∷ last.front;
        parts = ap (λ (qs : List Part). xs ++ Question ∷ ys ++ Colon ∷ qs) last.parts ∙ sym (append_assoc (xs ++ Question ∷ ys) (Colon ∷ last.front) a.0.1);
        derived = choice x y last.derived;
      })
  no_takes xs ys test one ps t rest x y e = absurd cc

  branches_take : (xs : List Part) (test : RawExpr) (ps : List Part) (t : RawExpr) (rest : List Part) → Derives (Level 6) xs test
      → branches_at deeper test ps ≡ Some (t, rest) → Takes Conditional (xs ++ ps) t rest
  branches_take xs test (Question ∷ ps) t rest x e =
      let a = bind_some (deeper Conditional ps) _ (t, rest) e in
      let first = sound Conditional ps a.0.0 a.0.1 a.1 in
      let taken = no_takes xs first.front test a.0.0 a.0.1 t rest x first.derived a.2 in
      record {
        front = taken.front;
        parts = ap (λ (qs : List Part). xs ++ Question ∷ qs) first.parts ∙ sym (append_assoc xs (Question ∷ first.front) a.0.1) ∙ taken.parts;
        derived = taken.derived;
      }
  branches_take xs test ps t rest x e = Takes-same test t ps rest e (record { front = xs; parts = refl; derived = no_choice x })

  line_takes : (line : Line) → IsSound line (line_at deeper line)
  unfolding line_at
  line_takes (Level level) ps t rest e = level_takes (unary_at deeper) (unary_takes deeper sound) level ps t rest e
  line_takes Conditional ps t rest e =
      let a = bind_some (level_at (unary_at deeper) 6 ps) _ (t, rest) e in
      let test = level_takes (unary_at deeper) (unary_takes deeper sound) 6 ps a.0.0 a.0.1 a.1 in
      let taken = branches_take test.front a.0.0 a.0.1 t rest test.derived a.2 in
      record { front = taken.front; parts = test.parts ∙ taken.parts; derived = taken.derived }

-- ---- the whole

tree_takes : (depth : ℕ) (line : Line) → IsSound line (tree_at depth line)
unfolding tree_at
tree_takes zero line ps t rest e = absurd cc
tree_takes (suc depth) line ps t rest e = line_takes (tree_at depth) (tree_takes depth) line ps t rest e

whole_is : (ps rest : List Part) (u t : RawExpr) → Takes Conditional ps u rest → whole_of u rest ≡ Some t → Derives Conditional ps t
whole_is ps [] u t taken e =
    let all : ps ≡ taken.front = taken.parts ∙ append-nil taken.front in
    let same : u ≡ t = cc in
    rw (all, ← same) taken.derived
whole_is ps (p ∷ rest) u t taken e = absurd cc

-- the tree that is read is one that the grammar gives
pub tree_of-derived : (ps : List Part) (t : RawExpr) → tree_of ps ≡ Some t → Derives Conditional ps t
unfolding tree_of
tree_of-derived ps t e =
    let a = bind_some (line_at (tree_at (length ps)) Conditional ps) _ t e in
    whole_is ps a.0.1 a.0.0 t (line_takes (tree_at (length ps)) (tree_takes (length ps)) Conditional ps a.0.0 a.0.1 a.1) a.2
