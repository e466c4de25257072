-- The children of nodes, as names and steps are added.
use Rattle.std.proofs.Common.{◌≡◌, ◌⊎◌, ℕ, suc, ◌+◌, ◌<◌, ◌≤◌, ◌^◌, Bool, true, false, nat_lt, cond, length, length-append, get_or, position, List, [], ◌∷◌, ◌++◌, Option, Some, None, inl, inr, refl, sym, ap, subst, ◌∙◌, arith, if◌then◌else◌}
use Rattle.std.specs.List.{list_any, position_or_len}
use Rattle.std.specs.Str.{bytes_eq}
use Rattle.std.specs.BTreeMap.{is_at}
use Rattle.std.specs.Ordering.{nat_cmp, ordering_then, is_eq}
use Rattle.std.specs.declared.cmp.Ordering.{Ordering}
use Rattle.std.specs.declared.cmp.Ordering.TheVariants.{Less, Equal, Greater}
use Rattle.std.proofs.lemmas.Map.Lookups.{exact_unsigned}
use Rattle.std.proofs.lemmas.List.Quantifiers.{position-Some}
use Rattle.std.proofs.lemmas.List.Sums.{position_or_len_is}
use Rattle.std.proofs.lemmas.List.{get_or_append_left}
use Rattle.std.proofs.lemmas.Bool.{cases_lt}
use Rattle.std.proofs.lemmas.Slice.Eq.{bytes_eq-Decides}
use Rattle.std.proofs.lemmas.Bool.Decides.{nat_tests}
use Rattle.gt_names.specs.Lists.{with_name}
use Rattle.gt_tree.specs.Scopes.{◌then◌}
use Rattle.gt_starts.specs.declared.tries.Step.{Step}
use Rattle.gt_starts.specs.Tries.{Trie, step_cmp, number_of, node_at, child, lead, node_of}
use Rattle.gt_starts.specs.Nodes.{IsTrie, Grows}
use Rattle.gt_starts.proofs.LeadLemmas.{AreNodes, Extends, lead-alike, lead-kept, nodes-extended}

-- ---- numbers of names

is-position : (p : List ℕ → Bool) (xs : List (List ℕ)) (i : ℕ) → i < length xs → p (get_or xs i []) ≡ true → ((k : ℕ) → k < i → p (get_or xs k []) ≡ false) → position p xs ≡ Some i
is-position p xs i within passes none =
    let at : position_or_len p xs ≡ i = position_or_len_is p xs i [] (omega arith) none (λ _. passes) in
    let low : nat_lt i (length xs) ≡ true = grind (arith, nat_tests) in
    ap (λ n. cond (nat_lt n (length xs)) (Some n) None) at ∙ ap (λ b. cond b (Some i) None) low

-- the name that stands at a number stands there where others follow
front-position : (p : List ℕ → Bool) (xs ys : List (List ℕ)) (i : ℕ) → position p xs ≡ Some i → position p (xs ++ ys) ≡ Some i
front-position p xs ys i e =
    let is = position-Some p xs i [] e in
    let long : length (xs ++ ys) ≡ length xs + length ys = length-append xs ys in
    let within : i < length xs = is.0 in
    is-position p (xs ++ ys) i (omega arith) (ap p (get_or_append_left xs ys [] i within) ∙ is.1)
    (λ k low. let below : k < length xs = omega arith in ap p (get_or_append_left xs ys [] k below) ∙ is.2 k low)

-- and one that is not there stands behind
end-position : (p : List ℕ → Bool) (xs ys : List (List ℕ)) (i : ℕ) → position p (xs ++ ys) ≡ Some i → position p xs ≡ None → length xs ≤ i
end-position p xs ys i e none = elim (cases_lt i (length xs)) [
  | inl within ↦
      let is = position-Some p (xs ++ ys) i [] e in
      let there : position p xs ≡ Some i =
      is-position p xs i within (ap p (sym (get_or_append_left xs ys [] i within)) ∙ is.1)
      (λ k low. let below : k < length xs = omega arith in ap p (sym (get_or_append_left xs ys [] k below)) ∙ is.2 k low) in
      let wrong : None ≡ Some i = sym none ∙ there in
      absurd (cc)
  | inr past ↦ past
]

-- more names have the numbers that they had, and new ones stand behind
pub record AreMore (names more : List (List ℕ)) : Type 0 where
  pub kept : (name : List ℕ) (i : ℕ) → position (λ other. bytes_eq other name) names ≡ Some i → position (λ other. bytes_eq other name) more ≡ Some i
  pub behind : (name : List ℕ) (i : ℕ) → position (λ other. bytes_eq other name) more ≡ Some i → position (λ other. bytes_eq other name) names ≡ None → length names ≤ i
  pub longer : length names ≤ length more

pub more-same : (names : List (List ℕ)) → AreMore names names
more-same names = record {
  kept = λ name i e. e;
  behind = λ name i e none. (let wrong : None ≡ Some i = sym none ∙ e in absurd (cc));
  longer = omega arith;
}

more-pushed : (names : List (List ℕ)) (word : List ℕ) → AreMore names (names ++ word ∷ [])
more-pushed names word = record {
  kept = λ name i e. front-position (λ other. bytes_eq other name) names (word ∷ []) i e;
  behind = λ name i e none. end-position (λ other. bytes_eq other name) names (word ∷ []) i e none;
  longer = (let long : length (names ++ word ∷ []) ≡ length names + length (word ∷ []) = length-append names (word ∷ []) in omega arith);
}

pub more-with : (names more : List (List ℕ)) (word : List ℕ) → more ≡ with_name names word → AreMore names more
more-with names more word is = subst (AreMore names) (sym is) (by (list_any (λ name. bytes_eq name word) names))
  where
    by : (b : Bool) → AreMore names (if b then names else names ++ word ∷ [])
    by true = more-same names
    by false = more-pushed names word

-- a number has one name
pub one-name : (names : List (List ℕ)) (a b : List ℕ) (i : ℕ) → position (λ other. bytes_eq other a) names ≡ Some i → position (λ other. bytes_eq other b) names ≡ Some i → a ≡ b
one-name names a b i e f =
    let first = (position-Some (λ other. bytes_eq other a) names i [] e).1 in
    let second = (position-Some (λ other. bytes_eq other b) names i [] f).1 in
    sym ((bytes_eq-Decides (get_or names i []) a).0 first) ∙ (bytes_eq-Decides (get_or names i []) b).0 second

-- ---- steps

eq-first : (o rest : Ordering) → is_eq (ordering_then o rest) ≡ true → o ≡ Equal
eq-first Less rest e = absurd (cc)
eq-first Equal rest e = refl
eq-first Greater rest e = absurd (cc)

eq-rest : (o rest : Ordering) → is_eq (ordering_then o rest) ≡ true → rest ≡ Equal
eq-rest Less rest e = absurd (cc)
eq-rest Equal Less e = absurd (cc)
eq-rest Equal Equal e = refl
eq-rest Equal Greater e = absurd (cc)
eq-rest Greater rest e = absurd (cc)

pub one-step : (p q : Step) → is_at (step_cmp p) q ≡ true → p ≡ q
one-step p q e =
    let from = exact_unsigned p.from q.from (eq-first (nat_cmp p.from q.from) (nat_cmp p.name q.name) e) in
    let name = exact_unsigned p.name q.name (eq-rest (nat_cmp p.from q.from) (nat_cmp p.name q.name) e) in
    let one : p ≡ record { from = q.from; name = p.name } = ap (λ (n : ℕ). record { from = n; name = p.name }) from in
    one ∙ ap (λ (n : ℕ). record { from = q.from; name = n }) name

-- a step is put in among others
pub record Puts (old new : List (Step × ℕ)) (step : Step) (next : ℕ) : Type 0 where
  pub each : (q : Step) → node_at new q ≡ cond (is_at (step_cmp step) q) (Some next) (node_at old q)
  pub own : node_at new step ≡ Some next

put-cases : (b : Bool) (step q : Step) (next node : ℕ) (old new : Option ℕ) → is_at (step_cmp step) q ≡ b → new ≡ cond b (Some next) old → new ≡ Some node → (old ≡ Some node) ⊎ ((step ≡ q) × (node ≡ next))
put-cases true step q next node old new at is e = let same : Some next ≡ Some node = sym is ∙ e in let one : node ≡ next = cc in inr (one-step step q at, one)
put-cases false step q next node old new at is e = inl (sym is ∙ e)

-- each step of the new ones is an old one, or that which was put in
pub put-either : (old new : List (Step × ℕ)) (step : Step) (next : ℕ) → Puts old new step next → (q : Step) (node : ℕ) → node_at new q ≡ Some node → (node_at old q ≡ Some node) ⊎ ((step ≡ q) × (node ≡ next))
put-either old new step next puts q node e = put-cases (is_at (step_cmp step) q) step q next node (node_at old q) (node_at new q) refl (puts.each q) e

-- ---- children

none-or-some : {X : Type 0} (o : Option X) → (o ≡ None) ⊎ ((x : X) × (o ≡ Some x))
none-or-some None = inl refl
none-or-some (Some x) = inr (x, refl)

nothing : {X Y : Type 0} (o : Option X) (f : X → Option Y) → o ≡ None → (o then f) ≡ None
nothing None f e = refl
nothing (Some x) f e = absurd (cc)

taken : {X Y : Type 0} (o : Option X) (f : X → Option Y) (x : X) → o ≡ Some x → (o then f) ≡ f x
taken None f x e = absurd (cc)
taken (Some z) f x e = let same : z ≡ x = cc in ap f same

was-some : {X Y : Type 0} (o : Option X) (f : X → Option Y) (y : Y) → (o then f) ≡ Some y → (x : X) × (o ≡ Some x) × (f x ≡ Some y)
was-some None f y e = absurd (cc)
was-some (Some x) f y e = (x, refl, e)

-- a child is at a step
pub child-step : (trie : Trie) (node : ℕ) (name : List ℕ) (next : ℕ) → child trie node name ≡ Some next
    → (number : ℕ) × (number_of trie name ≡ Some number) × (node_at trie.steps (record { from = node; name = number }) ≡ Some next)
child-step trie node name next e = was-some (number_of trie name) (λ number. node_at trie.steps (record { from = node; name = number })) next e

-- the nodes of a trie
trie-nodes : (trie : Trie) (count : ℕ) → IsTrie trie count → AreNodes (child trie) count
trie-nodes trie count is = record {
  reached = is.reached;
  left = λ node name next e. let at = child-step trie node name next e in is.left (record { from = node; name = at.0 }) next at.2;
  apart = is.apart;
}

-- what holds of a trie, by the children of its nodes
trie-of : (trie : Trie) (count : ℕ) → AreNodes (child trie) count
    → ((step : Step) (next : ℕ) → node_at trie.steps step ≡ Some next → (step.from < count) × (step.name < length trie.names) × (step.name < 2 ^ 32)) → IsTrie trie count
trie-of trie count nodes steps = record {
  reached = nodes.reached;
  left = λ step next e. (steps step next e).0;
  named = λ step next e. (steps step next e).1;
  narrow = λ step next e. (steps step next e).2;
  apart = nodes.apart;
}

-- ---- names are added

module _ (names more : List (List ℕ)) (steps : List (Step × ℕ)) (count : ℕ) (are : AreMore names more) (is : IsTrie (record { names = names; steps = steps }) count) where
  pub more-child : (node : ℕ) (name : List ℕ) → child (record { names = more; steps = steps }) node name ≡ child (record { names = names; steps = steps }) node name
  more-child node name = elim (none-or-some (position (λ other. bytes_eq other name) names)) [
    | inr was ↦ taken (position (λ other. bytes_eq other name) more) (λ number. node_at steps (record { from = node; name = number })) was.0 (are.kept name was.0 was.1)
        ∙ sym (taken (position (λ other. bytes_eq other name) names) (λ number. node_at steps (record { from = node; name = number })) was.0 was.1)
    | inl none ↦
        let free : child (record { names = names; steps = steps }) node name ≡ None = nothing (position (λ other. bytes_eq other name) names) (λ number. node_at steps (record { from = node; name = number })) none in
        elim (none-or-some (position (λ other. bytes_eq other name) more)) [
          | inl none ↦ nothing (position (λ other. bytes_eq other name) more) (λ number. node_at steps (record { from = node; name = number })) none ∙ sym free
          | inr new ↦ taken (position (λ other. bytes_eq other name) more) (λ number. node_at steps (record { from = node; name = number })) new.0 new.1
              ∙ elim (none-or-some (node_at steps (record { from = node; name = new.0 }))) [
                | inl nowhere ↦ nowhere ∙ sym free
                | inr there ↦ let low : new.0 < length names = is.named (record { from = node; name = new.0 }) there.0 there.1 in let high : length names ≤ new.0 = are.behind name new.0 new.1 none in absurd (omega arith)
              ]
        ]
  ]

  more-lead : (node : ℕ) (path : List (List ℕ)) → lead (child (record { names = more; steps = steps })) node path ≡ lead (child (record { names = names; steps = steps })) node path
  more-lead node path = lead-alike (child (record { names = names; steps = steps })) (child (record { names = more; steps = steps })) more-child node path

  pub trie-more : IsTrie (record { names = more; steps = steps }) count
  trie-more = record {
    reached = λ path node e. is.reached path node (sym (more-lead 0 path) ∙ e);
    left = is.left;
    named = λ step next e. (let low : step.name < length names = is.named step next e in let longer : length names ≤ length more = are.longer in omega arith);
    narrow = is.narrow;
    apart = λ path other node e f. is.apart path other node (sym (more-lead 0 path) ∙ e) (sym (more-lead 0 other) ∙ f);
  }

  pub grows-more : Grows (record { names = names; steps = steps }) (record { names = more; steps = steps })
  grows-more = record { nodes = λ path node e. more-lead 0 path ∙ e }

-- ---- a step is added

module _ (names : List (List ℕ)) (old new : List (Step × ℕ)) (from number next : ℕ) (name : List ℕ) (puts : Puts old new (record { from = from; name = number }) next)
    (is : IsTrie (record { names = names; steps = old }) next) (named : position (λ other. bytes_eq other name) names ≡ Some number)
    (free : child (record { names = names; steps = old }) from name ≡ None) where
  pub child-put : child (record { names = names; steps = new }) from name ≡ Some next
  child-put = taken (position (λ other. bytes_eq other name) names) (λ i. node_at new (record { from = from; name = i })) number named ∙ puts.own

  other-child : (node i : ℕ) (other : List ℕ) (b : Bool) → is_at (step_cmp (record { from = from; name = number })) (record { from = node; name = i }) ≡ b → position (λ o. bytes_eq o other) names ≡ Some i
      → ((node ≡ from) × (other ≡ name)) ⊎ (child (record { names = names; steps = new }) node other ≡ child (record { names = names; steps = old }) node other)
  other-child node i other true at there =
      let same = one-step (record { from = from; name = number }) (record { from = node; name = i }) at in
      let second : number ≡ i = ap (λ (s : Step). s.name) same in
      inl (sym (ap (λ (s : Step). s.from) same), one-name names other name number (subst (λ n. position (λ o. bytes_eq o other) names ≡ Some n) (sym second) there) named)
  other-child node i other false apart there = inr (taken (position (λ o. bytes_eq o other) names) (λ n. node_at new (record { from = node; name = n })) i there
      ∙ puts.each (record { from = node; name = i }) ∙ ap (λ b. cond b (Some next) (node_at old (record { from = node; name = i }))) apart
      ∙ sym (taken (position (λ o. bytes_eq o other) names) (λ n. node_at old (record { from = node; name = n })) i there))

  extends : Extends (child (record { names = names; steps = old })) (child (record { names = names; steps = new })) from name next
  extends = record {
    there = child-put;
    free = free;
    others = λ node other. elim (none-or-some (position (λ o. bytes_eq o other) names)) [
      | inl none ↦ inr (nothing (position (λ o. bytes_eq o other) names) (λ n. node_at new (record { from = node; name = n })) none
          ∙ sym (nothing (position (λ o. bytes_eq o other) names) (λ n. node_at old (record { from = node; name = n })) none))
      | inr there ↦ other-child node there.0 other (is_at (step_cmp (record { from = from; name = number })) (record { from = node; name = there.0 })) refl there.1
    ];
  }

  pub grows-put : Grows (record { names = names; steps = old }) (record { names = names; steps = new })
  grows-put = record { nodes = λ path node e. lead-kept (child (record { names = names; steps = old })) (child (record { names = names; steps = new })) from name next extends 0 path node e }

  module _ (front : List (List ℕ)) (at : lead (child (record { names = names; steps = old })) 0 front ≡ Some from) (narrow : number < 2 ^ 32) where
    pub trie-put : IsTrie (record { names = names; steps = new }) (suc next)
    trie-put =
        let below : from < next = is.reached front from at in
        let within : number < length names = (position-Some (λ other. bytes_eq other name) names number [] named).0 in
        trie-of (record { names = names; steps = new }) (suc next)
        (nodes-extended (child (record { names = names; steps = old })) (child (record { names = names; steps = new })) from name next extends front (trie-nodes (record { names = names; steps = old }) next is) at)
        (λ step node e. elim (put-either old new (record { from = from; name = number }) next puts step node e) [
          | inl was ↦ let low : step.from < next = is.left step node was in (omega arith, is.named step node was, is.narrow step node was)
          | inr put ↦
              let one : from ≡ step.from = ap (λ (s : Step). s.from) put.0 in
              let two : number ≡ step.name = ap (λ (s : Step). s.name) put.0 in
              (omega arith, omega arith, subst (λ n. n < 2 ^ 32) two narrow)
        ])

-- ---- from one trie to the next

pub grows-not : (trie : Trie) → Grows trie trie
grows-not trie = record { nodes = λ path node e. e }

pub grows-then : (a b c : Trie) → Grows a b → Grows b c → Grows a c
grows-then a b c first second = record { nodes = λ path node e. second.nodes path node (first.nodes path node e) }

-- a child is added to a node of a trie whose names may have grown before
module _ (old mid : Trie) (names : List (List ℕ)) (steps new : List (Step × ℕ)) (from number next count : ℕ) (name : List ℕ) (view : record { names = names; steps = steps } ≡ mid)
    (grows : Grows old mid) (children : child mid from name ≡ child old from name) (free : child old from name ≡ None) (named : number_of mid name ≡ Some number)
    (there : (path : List (List ℕ)) × (node_of old path ≡ Some from)) (is : IsTrie (record { names = names; steps = steps }) next)
    (puts : Puts steps new (record { from = from; name = number }) next) where
  own-named : position (λ other. bytes_eq other name) names ≡ Some number
  own-named = ap (λ (t : Trie). number_of t name) view ∙ named

  own-free : child (record { names = names; steps = steps }) from name ≡ None
  own-free = ap (λ (t : Trie). child t from name) view ∙ children ∙ free

  pub added-child : child (record { names = names; steps = new }) from name ≡ Some next
  added-child = child-put names steps new from number next name puts is own-named own-free

  pub added-trie : number < 2 ^ 32 → count ≡ suc next → IsTrie (record { names = names; steps = new }) count
  added-trie narrow more = subst (IsTrie (record { names = names; steps = new })) (sym more)
      (trie-put names steps new from number next name puts is own-named own-free there.0 (ap (λ (t : Trie). node_of t there.0) view ∙ grows.nodes there.0 from there.1) narrow)

  pub added-grows : Grows old (record { names = names; steps = new })
  added-grows = grows-then old (record { names = names; steps = steps }) (record { names = names; steps = new })
      (subst (Grows old) (sym view) grows) (grows-put names steps new from number next name puts is own-named own-free)

-- ---- the root alone

pub trie-none : (names : List (List ℕ)) (steps : List (Step × ℕ)) → names ≡ [] → steps ≡ [] → IsTrie (record { names = names; steps = steps }) 1
trie-none names steps none free = subst (λ ns. IsTrie (record { names = ns; steps = steps }) 1) (sym none) (subst (λ ss. IsTrie (record { names = []; steps = ss }) 1) (sym free) (record {
  reached = λ path node e. root path node e;
  left = λ step next e. absurd (cc);
  named = λ step next e. absurd (cc);
  narrow = λ step next e. absurd (cc);
  apart = λ path other node e f. only path node e ∙ sym (only other node f);
}))
  where
    root : (path : List (List ℕ)) (node : ℕ) → node_of (record { names = []; steps = [] }) path ≡ Some node → node < 1
    root [] node e = let zero : 0 ≡ node = cc in omega arith
    root (name ∷ path) node e = absurd (cc)

    only : (path : List (List ℕ)) (node : ℕ) → node_of (record { names = []; steps = [] }) path ≡ Some node → path ≡ []
    only [] node e = refl
    only (name ∷ path) node e = absurd (cc)
