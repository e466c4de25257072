-- Where names lead, by the children of nodes, as one child is added.
use Rattle.std.proofs.Common.{◌≡◌, ◌⊎◌, ℕ, suc, ◌<◌, List, [], ◌∷◌, ◌++◌, Option, Some, None, inl, inr, refl, sym, ap, subst, ◌∙◌, arith}
use Rattle.std.proofs.Common.{append_assoc}
use Rattle.gt_tree.specs.Scopes.{◌then◌}
use Rattle.gt_starts.specs.Tries.{lead}

abbrev pub Children : Type 0
Children = ℕ → List ℕ → Option ℕ

-- what comes of two steps came of the first one
then-some : {X Y : Type 0} (o : Option X) (f : X → Option Y) (y : Y) → (o then f) ≡ Some y → (x : X) × (o ≡ Some x) × (f x ≡ Some y)
then-some None f y e = absurd (cc)
then-some (Some x) f y e = (x, refl, e)

then-after : {X Y : Type 0} (o : Option X) (f : X → Option Y) (x : X) → o ≡ Some x → (o then f) ≡ f x
then-after None f x e = absurd (cc)
then-after (Some z) f x e = let same : z ≡ x = cc in ap f same

then-alike : {X Y : Type 0} (a b : Option X) (f g : X → Option Y) → a ≡ b → ((x : X) → f x ≡ g x) → (a then f) ≡ (b then g)
then-alike a None f g e is = ap (λ o. o then f) e
then-alike a (Some x) f g e is = ap (λ o. o then f) e ∙ is x

-- names lead where the first of them and then the others lead
pub lead-append : (c : Children) (node : ℕ) (front rest : List (List ℕ)) (mid : ℕ) → lead c node front ≡ Some mid → lead c node (front ++ rest) ≡ lead c mid rest
lead-append c node [] rest mid e = let same : node ≡ mid = cc in ap (λ n. lead c n rest) same
lead-append c node (name ∷ front) rest mid e =
    let next = then-some (c node name) (λ n. lead c n front) mid e in
    then-after (c node name) (λ n. lead c n (front ++ rest)) next.0 next.1 ∙ lead-append c next.0 front rest mid next.2

pub lead-one : (c : Children) (node : ℕ) (front : List (List ℕ)) (name : List ℕ) (mid next : ℕ) → lead c node front ≡ Some mid → c mid name ≡ Some next → lead c node (front ++ name ∷ []) ≡ Some next
lead-one c node front name mid next e is = lead-append c node front (name ∷ []) mid e ∙ then-after (c mid name) (λ n. lead c n []) next is

then-itself : {X : Type 0} (o : Option X) → (o then λ x. Some x) ≡ o
then-itself None = refl
then-itself (Some x) = refl

then-twice : {X Y Z : Type 0} (o : Option X) (f : X → Option Y) (g : Y → Option Z) (h : X → Option Z) → ((x : X) → h x ≡ (f x then g)) → (o then h) ≡ ((o then f) then g)
then-twice None f g h is = refl
then-twice (Some x) f g h is = is x

-- names and a last one lead where the last one leads from where the others do
pub lead-last : (c : Children) (node : ℕ) (front : List (List ℕ)) (name : List ℕ) → lead c node (front ++ name ∷ []) ≡ (lead c node front then λ mid. c mid name)
lead-last c node [] name = then-itself (c node name)
lead-last c node (first ∷ front) name = then-twice (c node first) (λ n. lead c n front) (λ mid. c mid name) (λ n. lead c n (front ++ name ∷ [])) (λ n. lead-last c n front name)

-- with the same children names lead where they did
pub lead-alike : (c d : Children) → ((node : ℕ) (name : List ℕ) → d node name ≡ c node name) → (node : ℕ) (path : List (List ℕ)) → lead d node path ≡ lead c node path
lead-alike c d same node [] = refl
lead-alike c d same node (name ∷ path) =
    then-alike (d node name) (c node name) (λ n. lead d n path) (λ n. lead c n path) (same node name) (λ n. lead-alike c d same n path)

-- the paths that lead to nodes from the root, and that there is none of this number
pub record AreNodes (c : Children) (count : ℕ) : Type 0 where
  pub reached : (path : List (List ℕ)) (node : ℕ) → lead c 0 path ≡ Some node → node < count
  pub left : (node : ℕ) (name : List ℕ) (next : ℕ) → c node name ≡ Some next → node < count
  pub apart : (path other : List (List ℕ)) (node : ℕ) → lead c 0 path ≡ Some node → lead c 0 other ≡ Some node → path ≡ other

-- a node has a child of a name that had none, and nothing else is changed
pub record Extends (c d : Children) (from : ℕ) (name : List ℕ) (next : ℕ) : Type 0 where
  pub there : d from name ≡ Some next
  pub free : c from name ≡ None
  pub others : (node : ℕ) (other : List ℕ) → ((node ≡ from) × (other ≡ name)) ⊎ (d node other ≡ c node other)

module _ (c d : Children) (from : ℕ) (name : List ℕ) (next : ℕ) (ext : Extends c d from name next) where
  -- names that led to a node do so still
  pub lead-kept : (node : ℕ) (path : List (List ℕ)) (end : ℕ) → lead c node path ≡ Some end → lead d node path ≡ Some end
  lead-kept node [] end e = e
  lead-kept node (first ∷ path) end e =
      let mid = then-some (c node first) (λ n. lead c n path) end e in
      elim (ext.others node first) [
        | inl here ↦
            let none : c node first ≡ None = subst (λ n. c n first ≡ None) (sym here.0) (subst (λ (w : List ℕ). c from w ≡ None) (sym here.1) ext.free) in
            let wrong : None ≡ Some mid.0 = sym none ∙ mid.1 in
            absurd (cc)
        | inr same ↦ then-after (d node first) (λ n. lead d n path) mid.0 (same ∙ mid.1) ∙ lead-kept mid.0 path end mid.2
      ]

  module _ (front : List (List ℕ)) (are : AreNodes c next) (at : lead c 0 front ≡ Some from) where
    -- nothing is below the new node
    new-ends : (rest : List (List ℕ)) (end : ℕ) → lead d next rest ≡ Some end → (rest ≡ []) × (end ≡ next)
    new-ends [] end e = let same : end ≡ next = cc in (refl, same)
    new-ends (first ∷ rest) end e =
        let mid = then-some (d next first) (λ n. lead d n rest) end e in
        elim (ext.others next first) [
          | inl here ↦ let low : from < next = are.reached front from at in let same : next ≡ from = here.0 in absurd (omega arith)
          | inr same ↦ let low : next < next = are.left next first mid.0 (sym same ∙ mid.1) in absurd (omega arith)
        ]

    -- names lead where they led, or to the new node
    lead-new : (before rest : List (List ℕ)) (node end : ℕ) → lead c 0 before ≡ Some node → lead d node rest ≡ Some end
        → (lead c node rest ≡ Some end) ⊎ ((end ≡ next) × (before ++ rest ≡ front ++ name ∷ []))
    lead-new before [] node end here e = inl e
    lead-new before (first ∷ rest) node end here e =
        let mid = then-some (d node first) (λ n. lead d n rest) end e in
        elim (ext.others node first) [
          | inl is ↦
              let to : next ≡ mid.0 =
              (let two : Some next ≡ Some mid.0 = sym ext.there ∙ ap (λ n. d n name) (sym is.0) ∙ ap (λ (w : List ℕ). d node w) (sym is.1) ∙ mid.1 in cc) in
              let last = new-ends rest end (subst (λ n. lead d n rest ≡ Some end) (sym to) mid.2) in
              let same : before ≡ front = are.apart before front from (subst (λ n. lead c 0 before ≡ Some n) is.0 here) at in
              inr (last.1, ap (λ r. before ++ first ∷ r) last.0 ∙ ap (λ (w : List ℕ). before ++ w ∷ []) is.1 ∙ ap (λ b. b ++ name ∷ []) same)
          | inr same ↦
              let was : c node first ≡ Some mid.0 = sym same ∙ mid.1 in
              elim (lead-new (before ++ first ∷ []) rest mid.0 end (lead-one c 0 before first node mid.0 here was) mid.2) [
                | inl old ↦ inl (then-after (c node first) (λ n. lead c n rest) mid.0 was ∙ old)
                | inr new ↦ inr (new.0, sym (append_assoc before (first ∷ []) rest) ∙ new.1)
              ]
        ]

    -- and the nodes are those of the paths still
    pub nodes-extended : AreNodes d (suc next)
    nodes-extended = record {
      reached = λ path node e. elim (lead-new [] path 0 node refl e) [
        | inl old ↦ let low : node < next = are.reached path node old in omega arith
        | inr new ↦ let is : node ≡ next = new.0 in omega arith
      ];
      left = λ node first end e. elim (ext.others node first) [
        | inl is ↦ let low : from < next = are.reached front from at in let same : node ≡ from = is.0 in omega arith
        | inr same ↦ let low : node < next = are.left node first end (sym same ∙ e) in omega arith
      ];
      apart = λ path other node e f. elim (lead-new [] path 0 node refl e) [
        | inl old ↦ elim (lead-new [] other 0 node refl f) [
          | inl second ↦ are.apart path other node old second
          | inr second ↦ let low : node < next = are.reached path node old in let is : node ≡ next = second.0 in absurd (omega arith)
        ]
        | inr new ↦ elim (lead-new [] other 0 node refl f) [
          | inl second ↦ let low : node < next = are.reached other node second in let is : node ≡ next = new.0 in absurd (omega arith)
          | inr second ↦ new.1 ∙ sym second.1
        ]
      ];
    }
