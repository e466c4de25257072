-- What a write, a join and a splice leave of the rings.
use Rattle.std.proofs.Common.{◌≡◌, ◌≢◌, ℕ, ◌⊎◌, inl, inr, ⊎_elim, refl, sym, ap, subst, ◌∙◌, arith, Option, Some, None}
use Rattle.std.proofs.lemmas.Bool.{cases_eq}
use Rattle.gt_links.specs.declared.rings.Neighbour.{Neighbour}
use Rattle.gt_links.specs.declared.rings.Neighbour.TheVariants.{Head, Node}
use Rattle.gt_links.specs.declared.rings.Entry.{Entry}
use Rattle.gt_links.specs.declared.rings.Rings.{Rings}
use Rattle.gt_links.specs.Rings.{IsPlace, entry_of, next_of, previous_of, list_of, SameSize, Writes, Joins, LinksAgree, Splices, Inserts, Removes}

pub cases_Place : (p q : Neighbour) → (p ≡ q) ⊎ (p ≢ q)
cases_Place (Head i) (Head j) = ⊎_elim (λ e. inl (ap Head e)) (λ ne. inr (λ e. ne cc)) (cases_eq i j)
cases_Place (Head i) (Node y) = inr (λ e. cc)
cases_Place (Node x) (Head j) = inr (λ e. cc)
cases_Place (Node x) (Node y) = ⊎_elim (λ e. inl (ap Node e)) (λ ne. inr (λ e. ne cc)) (cases_eq x y)

pub IsPlace-same : {old new : Rings} → SameSize old new → (p : Neighbour) → IsPlace old p → IsPlace new p
IsPlace-same s (Head i) w = let l = s.lists in let n = s.length in (omega (arith, w.0), omega (arith, w.1))
IsPlace-same s (Node x) w = let l = s.lists in let n = s.length in omega (arith, w)

pub IsPlace-same_back : {old new : Rings} → SameSize old new → (p : Neighbour) → IsPlace new p → IsPlace old p
IsPlace-same_back s (Head i) w = let l = s.lists in let n = s.length in (omega (arith, w.0), omega (arith, w.1))
IsPlace-same_back s (Node x) w = let l = s.lists in let n = s.length in omega (arith, w)

pub SameSize-trans : {a b c : Rings} → SameSize a b → SameSize b c → SameSize a c
SameSize-trans s t = record { lists = t.lists ∙ s.lists; length = t.length ∙ s.length }

-- what a field of the entries reads after a write that keeps it
field-Writes : {X : Type 0} (f : Entry → X) {old new : Rings} {p : Neighbour} {e : Entry} → Writes old new p e → f e ≡ f (entry_of old p) → (r : Neighbour) → IsPlace old r → f (entry_of new r) ≡ f (entry_of old r)
field-Writes f {old} {new} {p} {e} w same r at =
    ⊎_elim (λ is. rw is (ap f w.written ∙ same)) (λ ne. ap f (w.others r at ne)) (cases_Place r p)

pub Joins-from_writes : {old mid new : Rings} {p q : Neighbour} → IsPlace old p → IsPlace old q → Writes old mid p (record (entry_of old p) { next = q }) → Writes mid new q (record (entry_of mid q) { previous = p }) → Joins old new p q
Joins-from_writes {old} {mid} {new} {p} {q} at_p at_q w v =
    let there : (r : Neighbour) → IsPlace old r → IsPlace mid r = IsPlace-same w.size in
    record {
      size = SameSize-trans w.size v.size;
      next = field-Writes (λ e. e.next) v refl p (there p at_p) ∙ ap (λ (e : Entry). e.next) w.written;
      previous = ap (λ (e : Entry). e.previous) v.written;
      other_next = λ r at ne. field-Writes (λ e. e.next) v refl r (there r at) ∙ ap (λ (e : Entry). e.next) (w.others r at ne);
      other_previous = λ r at ne. ap (λ (e : Entry). e.previous) (v.others r (there r at) ne) ∙ field-Writes (λ e. e.previous) w refl r at;
      lists = λ r at. field-Writes (λ e. e.list) v refl r (there r at) ∙ field-Writes (λ e. e.list) w refl r at;
    }

pub Splices-from_joins : {old mid new : Rings} {p q : Neighbour} → IsPlace old p → IsPlace old q → Joins old mid p (next_of old q) → Joins mid new q (next_of old p) → Splices old new p q
Splices-from_joins {old} {mid} {new} {p} {q} at_p at_q j k =
    let there : (r : Neighbour) → IsPlace old r → IsPlace mid r = IsPlace-same j.size in
    record {
      size = SameSize-trans j.size k.size;
      first = ⊎_elim (λ is. ap (next_of new) is ∙ (k.next ∙ ap (next_of old) is)) (λ ne. k.other_next p (there p at_p) ne ∙ j.next) (cases_Place p q);
      second = k.next;
      others = λ r at not_p not_q. k.other_next r (there r at) not_q ∙ j.other_next r at not_p;
      lists = λ r at. k.lists r (there r at) ∙ j.lists r at;
    }

-- where the links back lead after a splice
record Returns (old new : Rings) (p q : Neighbour) : Type 0 where
  first : previous_of new (next_of old q) ≡ p
  second : previous_of new (next_of old p) ≡ q
  others : (r : Neighbour) → IsPlace old r → r ≢ next_of old p → r ≢ next_of old q → previous_of new r ≡ previous_of old r

Returns-from_joins : {old mid new : Rings} {p q : Neighbour} → LinksAgree old → IsPlace old p → IsPlace old q → Joins old mid p (next_of old q) → Joins mid new q (next_of old p) → Returns old new p q
Returns-from_joins {old} {mid} {new} {p} {q} a at_p at_q j k =
    let there : (r : Neighbour) → IsPlace old r → IsPlace mid r = IsPlace-same j.size in
    record {
      first =
          ⊎_elim
          (λ is. ap (previous_of new) is ∙ (k.previous ∙ (sym (a.back q at_q) ∙ (ap (previous_of old) is ∙ a.back p at_p))))
          (λ ne. k.other_previous (next_of old q) (there _ (a.next_leads q at_q)) ne ∙ j.previous)
          (cases_Place (next_of old q) (next_of old p));
      second = k.previous;
      others = λ r at not_p not_q. k.other_previous r (there r at) not_p ∙ j.other_previous r at not_q;
    }

pub LinksAgree-from_joins : {old mid new : Rings} {p q : Neighbour} → LinksAgree old → IsPlace old p → IsPlace old q → Joins old mid p (next_of old q) → Joins mid new q (next_of old p) → LinksAgree new
LinksAgree-from_joins {old} {mid} {new} {p} {q} a at_p at_q j k =
    let s = Splices-from_joins at_p at_q j k in
    let b = Returns-from_joins a at_p at_q j k in
    let there : (r : Neighbour) → IsPlace old r → IsPlace new r = IsPlace-same s.size in
    let here : (r : Neighbour) → IsPlace new r → IsPlace old r = IsPlace-same_back s.size in
    record {
      next_leads = λ r at.
          ⊎_elim
          (λ is. subst (IsPlace new) (sym (ap (next_of new) is ∙ s.first)) (there _ (a.next_leads q at_q)))
          (λ not_p.
          ⊎_elim
          (λ is. subst (IsPlace new) (sym (ap (next_of new) is ∙ s.second)) (there _ (a.next_leads p at_p)))
          (λ not_q. subst (IsPlace new) (sym (s.others r (here r at) not_p not_q)) (there _ (a.next_leads r (here r at))))
          (cases_Place r q))
          (cases_Place r p);
      previous_leads = λ r at.
          ⊎_elim
          (λ is. subst (IsPlace new) (sym (ap (previous_of new) is ∙ b.first)) (there p at_p))
          (λ not_second.
          ⊎_elim
          (λ is. subst (IsPlace new) (sym (ap (previous_of new) is ∙ b.second)) (there q at_q))
          (λ not_first. subst (IsPlace new) (sym (b.others r (here r at) not_first not_second)) (there _ (a.previous_leads r (here r at))))
          (cases_Place r (next_of old p)))
          (cases_Place r (next_of old q));
      back = λ r at.
          ⊎_elim
          (λ is. ap (λ w. previous_of new (next_of new w)) is ∙ (ap (previous_of new) s.first ∙ (b.first ∙ sym is)))
          (λ not_p.
          ⊎_elim
          (λ is. ap (λ w. previous_of new (next_of new w)) is ∙ (ap (previous_of new) s.second ∙ (b.second ∙ sym is)))
          (λ not_q.
          let w = here r at in
          ap (previous_of new) (s.others r w not_p not_q)
          ∙ (b.others _ (a.next_leads r w) (λ is. not_p (sym (a.back r w) ∙ (ap (previous_of old) is ∙ a.back p at_p))) (λ is. not_q (sym (a.back r w) ∙ (ap (previous_of old) is ∙ a.back q at_q)))
          ∙ a.back r w))
          (cases_Place r q))
          (cases_Place r p);
      forth = λ r at.
          ⊎_elim
          (λ is. ap (λ w. next_of new (previous_of new w)) is ∙ (ap (next_of new) b.first ∙ (s.first ∙ sym is)))
          (λ not_second.
          ⊎_elim
          (λ is. ap (λ w. next_of new (previous_of new w)) is ∙ (ap (next_of new) b.second ∙ (s.second ∙ sym is)))
          (λ not_first.
          let w = here r at in
          ap (next_of new) (b.others r w not_first not_second)
          ∙ (s.others _ (a.previous_leads r w) (λ is. not_first (sym (a.forth r w) ∙ ap (next_of old) is)) (λ is. not_second (sym (a.forth r w) ∙ ap (next_of old) is))
          ∙ a.forth r w))
          (cases_Place r (next_of old p)))
          (cases_Place r (next_of old q));
    }

-- a write that keeps both links of its place keeps all links
pub LinksAgree-from_writes : {old new : Rings} {p : Neighbour} {e : Entry} → LinksAgree old → Writes old new p e → e.next ≡ next_of old p → e.previous ≡ previous_of old p → LinksAgree new
LinksAgree-from_writes {old} {new} {p} {e} a w same_next same_previous =
    let there : (r : Neighbour) → IsPlace old r → IsPlace new r = IsPlace-same w.size in
    let here : (r : Neighbour) → IsPlace new r → IsPlace old r = IsPlace-same_back w.size in
    let next : (r : Neighbour) → IsPlace old r → next_of new r ≡ next_of old r = field-Writes (λ d. d.next) w same_next in
    let previous : (r : Neighbour) → IsPlace old r → previous_of new r ≡ previous_of old r =
    field-Writes (λ d. d.previous) w same_previous in
    record {
      next_leads = λ r at. subst (IsPlace new) (sym (next r (here r at))) (there _ (a.next_leads r (here r at)));
      previous_leads = λ r at.
          subst (IsPlace new) (sym (previous r (here r at))) (there _ (a.previous_leads r (here r at)));
      back = λ r at.
          ap (previous_of new) (next r (here r at))
          ∙ (previous _ (a.next_leads r (here r at)) ∙ a.back r (here r at));
      forth = λ r at.
          ap (next_of new) (previous r (here r at))
          ∙ (next _ (a.previous_leads r (here r at)) ∙ a.forth r (here r at));
    }

-- a splice, and then the node's list
pub record Relinks (old new : Rings) (p : Neighbour) (x : ℕ) (owner : Option ℕ) : Type 0 where
  pub size : SameSize old new
  pub agree : LinksAgree new
  pub first : next_of new p ≡ next_of old (Node x)
  pub second : next_of new (Node x) ≡ next_of old p
  pub others : (r : Neighbour) → IsPlace old r → r ≢ p → r ≢ Node x → next_of new r ≡ next_of old r
  pub list : list_of new (Node x) ≡ owner
  pub lists : (r : Neighbour) → IsPlace old r → r ≢ Node x → list_of new r ≡ list_of old r

pub Relinks-from_writes : {old mid new : Rings} {p : Neighbour} {x : ℕ} {list : Option ℕ} → IsPlace old p → IsPlace old (Node x) → LinksAgree mid → Splices old mid p (Node x) → Writes mid new (Node x) (record (entry_of mid (Node x)) { list = list }) → Relinks old new p x list
Relinks-from_writes {old} {mid} {new} {p} {x} {list} at_p at_x a s w =
    let there : (r : Neighbour) → IsPlace old r → IsPlace mid r = IsPlace-same s.size in
    let next : (r : Neighbour) → IsPlace mid r → next_of new r ≡ next_of mid r = field-Writes (λ d. d.next) w refl in
    record {
      size = SameSize-trans s.size w.size;
      agree = LinksAgree-from_writes a w refl refl;
      first = next p (there p at_p) ∙ s.first;
      second = next (Node x) (there (Node x) at_x) ∙ s.second;
      others = λ r at not_p not_x. next r (there r at) ∙ s.others r at not_p not_x;
      list = ap (λ (d : Entry). d.list) w.written;
      lists = λ r at ne. ap (λ (d : Entry). d.list) (w.others r (there r at) ne) ∙ s.lists r at;
    }

pub Inserts-from_relinks : {old new : Rings} {p : Neighbour} {x i : ℕ} → next_of old (Node x) ≡ Node x → Relinks old new p x (Some i) → Inserts old new p x i
Inserts-from_relinks alone r = record {
  size = r.size;
  agree = r.agree;
  before = r.first ∙ alone;
  node = r.second;
  others = r.others;
  list = r.list;
  lists = r.lists;
}

pub Removes-from_relinks : {old new : Rings} {x : ℕ} → LinksAgree old → IsPlace old (Node x) → Relinks old new (previous_of old (Node x)) x None → Removes old new x
Removes-from_relinks {old} {new} {x} a at r = record {
  size = r.size;
  agree = r.agree;
  before = r.first;
  node = r.second ∙ a.forth (Node x) at;
  others = r.others;
  list = r.list;
  lists = r.lists;
}
