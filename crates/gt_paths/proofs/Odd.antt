-- What is no plain struct, and what contains it.
use Rattle.std.proofs.Common.{◌≡◌, ◌⊎◌, inl, inr, ℕ, ◌+◌, ◌<◌, ◌≤◌, Bool, true, false, not, List, [], ◌∷◌, ◌++◌, length, get_or, take, Option, Some, None, slice_get, refl, sym, ap, subst, ◌∙◌, arith, nat_eq}
use Rattle.std.specs.Prelude.{Contains}
use Rattle.std.specs.Bool.{Decides}
use Rattle.std.specs.Cmp.{nat_eq_equiv}
use Rattle.std.specs.List.{list_any}
use Rattle.std.proofs.lemmas.Bool.{cases_lt}
use Rattle.std.proofs.lemmas.List.{get_or_append_left, length-append, take_all, take_more}
use Rattle.std.proofs.Math.Seq.{get_or-append_seam}
use Rattle.std.proofs.lemmas.Map.Views.{Contains-from_any, list_any-from_Contains}
use Rattle.std.proofs.lemmas.Option.{slice_get_within, slice_get-get_or, slice_get_past, get_or_from_slice_get}
use Rattle.indexmap.specs.IndexSet.{insert_key}
use Rattle.gt_types.specs.declared.types.TypeId.{TypeId}
use Rattle.gt_types.specs.declared.program.Field.{Field}
use Rattle.gt_types.specs.declared.program.Structure.{Structure}
use Rattle.gt_types.specs.declared.program.Program.{Program}
use Rattle.gt_types.specs.Contains.{ContainsStructure, Nests, once, deeper, held_by}
use Rattle.gt_types.specs.Unions.{IsPlainStruct}
use Rattle.gt_unions.specs.Beginnings.{IsPlain}
use Rattle.gt_paths.specs.Climbs.{AreAbove, IsAbove}
use Rattle.gt_paths.specs.Marks.{AddsHeldOdd, AddsOdd, AreOdd, ArePlain, MarksOthers}
use Rattle.gt_paths.specs.Numbers.{numbered, or_false}
use Rattle.gt_paths.proofs.Ascents.{inserted, kept, last_or_before, nat_same, old_or_new}
use Rattle.gt_paths.proofs.Walks.{any_joins, of_one}

pub plain_kept : (program : Program) (odd : List ℕ) (node : TypeId) → IsPlainStruct program node → AddsOdd program odd node odd
plain_kept program odd node plain = record { kept = λ x at. at; only = λ x at. inl at; odd = inl plain }

pub odd_added : (program : Program) (old new : List ℕ) (node : TypeId) → ¬ IsPlainStruct program node → new ≡ insert_key nat_eq old node.0 → AddsOdd program old node new
odd_added program old new node fails same = subst (AddsOdd program old node) (sym same) (record {
  kept = λ x at. kept old node.0 x at;
  only = λ x at. elim (old_or_new old node.0 x at) [
    | inl before ↦ inl before
    | inr it ↦ inr (λ plain. fails (subst (λ (k : ℕ). IsPlainStruct program (numbered k)) it plain))
  ];
  odd = inr (inserted old node.0);
})

-- ---- what fields hold

pub held_none : (program : Program) (odd : List ℕ) → AddsHeldOdd program odd [] odd
held_none program odd = record { kept = λ x at. at; only = λ x at. inl at; odd = λ inner any. absurd (omega (arith, any.2)) }

pub held_nothing : (program : Program) (odd : List ℕ) (f : Field) → held_by f.ty ≡ None → AddsHeldOdd program odd (f ∷ []) odd
held_nothing program odd f none = record {
  kept = λ x at. at;
  only = λ x at. inl at;
  odd = λ inner any.
      let holds = of_one (λ (g : Field). held_by g.ty ≡ Some inner) f any.1 any.0 any.2 any.3 any.4 in
      let never : None ≡ Some inner = sym none ∙ holds in cc;
}

same_id : (a b : TypeId) → Some a ≡ Some b → a ≡ b
same_id a b e = cc

pub held_one : (program : Program) (old new : List ℕ) (f : Field) (inner : TypeId) → held_by f.ty ≡ Some inner → AddsOdd program old inner new → AddsHeldOdd program old (f ∷ []) new
held_one program old new f inner held a = record {
  kept = a.kept;
  only = a.only;
  odd = λ id any.
      let holds = of_one (λ (g : Field). held_by g.ty ≡ Some id) f any.1 any.0 any.2 any.3 any.4 in
      subst (λ (j : TypeId). IsPlainStruct program j ⊎ Contains new j.0) (same_id inner id (sym held ∙ holds)) a.odd;
}

later : (program : Program) (b c : List ℕ) (inner : TypeId) → ((x : ℕ) → Contains b x → Contains c x) → IsPlainStruct program inner ⊎ Contains b inner.0 → IsPlainStruct program inner ⊎ Contains c inner.0
later program b c inner keeps (inl plain) = inl plain
later program b c inner keeps (inr at) = inr (keeps inner.0 at)

both_only : (program : Program) (a b : List ℕ) (x : ℕ) → (Contains b x → Contains a x ⊎ (¬ IsPlainStruct program (numbered x))) → Contains b x ⊎ (¬ IsPlainStruct program (numbered x))
    → Contains a x ⊎ (¬ IsPlainStruct program (numbered x))
both_only program a b x first (inl at) = first at
both_only program a b x first (inr fails) = inr fails

pub held_more : (program : Program) (a b c : List ℕ) (xs ys : List Field) → AddsHeldOdd program a xs b → AddsHeldOdd program b ys c → AddsHeldOdd program a (xs ++ ys) c
held_more program a b c xs ys first second = record {
  kept = λ x at. second.kept x (first.kept x at);
  only = λ x at. both_only program a b x (first.only x) (second.only x at);
  odd = λ inner any. elim ((any_joins (λ (f : Field). held_by f.ty ≡ Some inner)).cases xs ys any) [
    | inl there ↦ later program b c inner second.kept (first.odd inner there)
    | inr there ↦ second.odd inner there
  ];
}

pub held_next : (program : Program) (a b c : List ℕ) (fs : List Field) (i : ℕ) (f : Field) → i < length fs → f ≡ get_or fs i f → AddsHeldOdd program a (take i fs) b → AddsHeldOdd program b (f ∷ []) c
    → AddsHeldOdd program a (take (i + 1) fs) c
held_next program a b c fs i f within is first second =
    subst (λ (xs : List Field). AddsHeldOdd program a xs c) (ap (λ (g : Field). take i fs ++ g ∷ []) is ∙ sym (take_more fs i f within)) (held_more program a b c (take i fs) (f ∷ []) first second)

pub held_all : (program : Program) (a c : List ℕ) (fs : List Field) (i : ℕ) → length fs ≤ i → AddsHeldOdd program a (take i fs) c → AddsHeldOdd program a fs c
held_all program a c fs i past first = subst (λ (xs : List Field). AddsHeldOdd program a xs c) (take_all i fs past) first

-- ---- all structures

-- the same, among the structures before this number and what they contain
pub record OddBefore (program : Program) (i : ℕ) (odd : List ℕ) : Type 0 where
  pub only : (x : ℕ) → Contains odd x → ¬ IsPlainStruct program (numbered x)
  pub own : (x : ℕ) → x < i → IsPlainStruct program (numbered x) ⊎ Contains odd x
  pub held : (outer inner : TypeId) → outer.0 < i → ContainsStructure program outer inner → IsPlainStruct program inner ⊎ Contains odd inner.0

pub none_odd : (program : Program) → OddBefore program 0 []
none_odd program = record {
  only = λ x at. absurd (omega (arith, at.1));
  own = λ x below. absurd (omega (arith, below));
  held = λ outer inner below. absurd (omega (arith, below));
}

same_structure : (s t : Structure) → Some s ≡ Some t → s ≡ t
same_structure s t e = cc

no_longer : (program : Program) (a b : List ℕ) (x : ℕ) → (Contains a x → ¬ IsPlainStruct program (numbered x)) → Contains a x ⊎ (¬ IsPlainStruct program (numbered x)) → ¬ IsPlainStruct program (numbered x)
no_longer program a b x first (inl at) = first at
no_longer program a b x first (inr fails) = fails

pub odd_more : (program : Program) (i : ℕ) (s : Structure) (fields : List Field) (a b c : List ℕ) → slice_get program.structures i ≡ Some s → fields ≡ s.fields → OddBefore program i a
    → AddsOdd program a (numbered i) b → AddsHeldOdd program b fields c → OddBefore program (i + 1) c
odd_more program i s fields a b c there same before own held = record {
  only = λ x at. no_longer program b c x (λ mid. no_longer program a b x (before.only x) (own.only x mid)) (held.only x at);
  own = λ x below. elim (last_or_before i x below) [
    | inl less ↦ later program b c (numbered x) held.kept (later program a b (numbered x) own.kept (before.own x less))
    | inr it ↦ later program b c (numbered x) held.kept (subst (λ (k : ℕ). IsPlainStruct program (numbered k) ⊎ Contains b k) (sym it) own.odd)
  ];
  held = λ outer inner below contains. elim (last_or_before i outer.0 below) [
    | inl less ↦ later program b c inner held.kept (later program a b inner own.kept (before.held outer inner less contains))
    | inr last ↦ of_own outer inner last contains
  ];
}
  where
    of_own : (outer inner : TypeId) → outer.0 ≡ i → ContainsStructure program outer inner → IsPlainStruct program inner ⊎ Contains c inner.0
    of_own outer inner last (t, f, there', at, holds) =
        let t_is = same_structure t s (sym (subst (λ (j : ℕ). slice_get program.structures j ≡ Some t) last there') ∙ there) in
        let here = subst (λ (xs : List Field). Contains xs f) (sym same) (subst (λ (u : Structure). Contains u.fields f) t_is at) in
        held.odd inner (here.0, f, here.1, here.2, holds)

pub all_odd : (program : Program) (items : List Structure) (i : ℕ) (odd : List ℕ) → items ≡ program.structures → length items ≤ i → OddBefore program i odd → AreOdd program odd
all_odd program items i odd same past before =
    let all : length program.structures ≤ i = subst (λ (xs : List Structure). length xs ≤ i) same past in record {
      only = before.only;
      own = λ x within. before.own x (omega (arith, within, all));
      held = λ outer inner contains.
          let within = slice_get_within program.structures outer.0 contains.0 contains.2 in
          before.held outer inner (omega (arith, within, all)) contains;
    }

-- ---- the marks

pub none_marked : (found : List ℕ) → MarksOthers found 0 []
none_marked found = record { long = refl; marks = λ k below. absurd (omega (arith, below)) }

mark_left : (marks : List Bool) (b c : Bool) (k : ℕ) → slice_get marks k ≡ Some b → slice_get (marks ++ c ∷ []) k ≡ Some b
mark_left marks b c k at =
    let within = slice_get_within marks k b at in
    slice_get-get_or (marks ++ c ∷ []) k b (omega (arith, within, length-append marks (c ∷ []))) ∙ ap (λ (z : Bool). Some z) (get_or_append_left marks (c ∷ []) b k within ∙ get_or_from_slice_get marks k b b at)

mark_last : (marks : List Bool) (b : Bool) → slice_get (marks ++ b ∷ []) (length marks) ≡ Some b
mark_last marks b =
    slice_get-get_or (marks ++ b ∷ []) (length marks) b (omega (arith, length-append marks (b ∷ []))) ∙ ap (λ (z : Bool). Some z) (get_or-append_seam marks b [] b)

pub marked_more : (found : List ℕ) (i : ℕ) (marks : List Bool) (b : Bool) → b ≡ not (list_any (nat_eq i) found) → MarksOthers found i marks → MarksOthers found (i + 1) (marks ++ b ∷ [])
marked_more found i marks b is before = record {
  long = omega (arith, before.long, length-append marks (b ∷ []));
  marks = λ k below. elim (last_or_before i k below) [
    | inl less ↦ mark_left marks (not (list_any (nat_eq k) found)) b k (before.marks k less)
    | inr last ↦
        subst (λ (j : ℕ). slice_get (marks ++ b ∷ []) j ≡ Some (not (list_any (nat_eq j) found))) (before.long ∙ sym last)
        (mark_last marks b ∙ ap (λ (z : Bool). Some z) (is ∙ ap (λ (j : ℕ). not (list_any (nat_eq j) found)) (sym before.long)))
  ];
}

pub marked_pushed : (found : List ℕ) (i : ℕ) (marks made : List Bool) (b : Bool) → made ≡ marks ++ not b ∷ [] → b ≡ list_any (nat_eq i) found → MarksOthers found i marks → MarksOthers found (i + 1) made
marked_pushed found i marks made b pushed is before =
    subst (MarksOthers found (i + 1)) (sym pushed) (marked_more found i marks (not b) (ap (λ (c : Bool). not c) is) before)

pub all_marked : (found : List ℕ) (i m n : ℕ) (marks made : List Bool) → made ≡ marks → m ≡ n → m ≤ i → i ≤ m → MarksOthers found i marks → MarksOthers found n made
all_marked found i m n marks made same count past within before =
    let all : i ≡ n = omega (arith, count, past, within) in
    subst (λ (k : ℕ). MarksOthers found k made) all (subst (MarksOthers found i) (sym same) before)

pub begin_marks : (found : List ℕ) (made : List Bool) → made ≡ [] → MarksOthers found 0 made
begin_marks found made none = subst (MarksOthers found 0) (sym none) (none_marked found)

held_inner : (program : Program) {n : ℕ} {outer inner : TypeId} → Nests program n outer inner → (x : TypeId) × ContainsStructure program x inner
held_inner program (once {outer = outer} contains) = (outer, contains)
held_inner program (deeper contains nests) = held_inner program nests

plain_or : (program : Program) (node : TypeId) (odd found : List ℕ) → AreAbove program odd found → (x : TypeId) → (Contains odd x.0 → IsAbove program odd node.0) → list_any (nat_eq node.0) found ≡ false
    → IsPlainStruct program x ⊎ Contains odd x.0 → IsPlainStruct program x
plain_or program node odd found above x up none (inl plain) = plain
plain_or program node odd found above x up none (inr at) =
    let never : true ≡ false = sym (list_any-from_Contains nat_eq_equiv node.0 found (above.all node.0 (up at))) ∙ none in absurd (cc)

not_above : (program : Program) (node : TypeId) (odd : List ℕ) → AreOdd program odd → IsPlain program node → ¬ IsAbove program odd node.0
not_above program node odd are plain (x, at, inl same) = are.only x at (subst (λ (k : ℕ). IsPlainStruct program (numbered k)) same plain.0)
not_above program node odd are plain (x, at, inr inside) = are.only x at (plain.1 (numbered x) inside)

decided : (program : Program) (node : TypeId) (odd found : List ℕ) (b : Bool) → AreOdd program odd → AreAbove program odd found → node.0 < length program.structures → list_any (nat_eq node.0) found ≡ b
    → Decides (not b) (IsPlain program node)
decided program node odd found true are above within is =
    (λ never. cc, λ plain. absurd (not_above program node odd are plain (above.only node.0 (Contains-from_any nat_same node.0 found is))))
decided program node odd found false are above within is = (
  λ _. (
    plain_or program node odd found above node (λ at. (node.0, at, inl refl)) is (are.own node.0 within),
    λ inner (n, nests).
        let holder = held_inner program nests in
        plain_or program node odd found above inner (λ at. (inner.0, at, inr (n, nests))) is (are.held holder.0 inner holder.1),
  ),
  λ _. refl,
)

pub are_plain : (program : Program) (odd found : List ℕ) (marks : List Bool) → AreOdd program odd → AreAbove program odd found → MarksOthers found (length program.structures) marks → ArePlain program marks
are_plain program odd found marks are above before node = elim (cases_lt node.0 (length program.structures)) [
  | inl below ↦
      subst (λ (o : Option Bool). Decides (or_false o) (IsPlain program node)) (sym (before.marks node.0 below))
      (decided program node odd found (list_any (nat_eq node.0) found) are above below refl)
  | inr past ↦
      subst (λ (o : Option Bool). Decides (or_false o) (IsPlain program node)) (sym (slice_get_past marks node.0 (omega (arith, past, before.long))))
      (λ never. cc, λ plain. absurd (gone plain past))
]
  where
    gone : IsPlain program node → length program.structures ≤ node.0 → ⊥
    gone ((s, there, kind, tail), rest) past = let within = slice_get_within program.structures node.0 s there in absurd (omega (arith, within, past))
