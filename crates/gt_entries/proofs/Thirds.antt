-- The three sets of an entry after a write to one of them.
use Rattle.std.proofs.Common.{◌≡◌, ℕ, ◌+◌, ◌-◌, ◌*◌, ◌≤◌, List, ◌++◌, length, replicate, refl, sym, ap, ◌∙◌, arith}
use Rattle.std.proofs.Math.ListN.{take, drop}
use Rattle.std.proofs.lemmas.List.{append_assoc, append-nil, nil_from_length, length-append, length-take-le, length-drop, replicate-append-replicate, drop-drop, take-append-drop, take_at, drop_at}
use Rattle.gt_entries.specs.Sets.{ThreeSets, AreThirds, sets_of, third}

pub same_sets : (u v m w q r : List ℕ) → u ≡ v → m ≡ w → q ≡ r → ◌≡◌ {A = ThreeSets} (record { used = u; marked = m; pending = q }) (record { used = v; marked = w; pending = r })
same_sets u v m w q r used marked pending =
    ap (λ x. record { used = x; marked = m; pending = q }) used ∙ ap (λ x. record { used = v; marked = x; pending = q }) marked
    ∙ ap (λ x. record { used = v; marked = w; pending = x }) pending

pub third_is : (len : ℕ) (ws : List ℕ) → AreThirds len ws → len ≡ third ws
third_is len ws are = omega (arith, are)

pub thirds_of : (len : ℕ) (ws : List ℕ) → AreThirds len ws → 3 * third ws ≡ length ws
thirds_of len ws are = omega (arith, are, third_is len ws are)

module _ (u m q : List ℕ) (len : length m ≡ length u) (len-2 : length q ≡ length u) where
  pub length-three : length (u ++ (m ++ q)) ≡ 3 * length u
  length-three = omega (arith, length-append u (m ++ q), length-append m q, len, len-2)

  pub third-three : third (u ++ (m ++ q)) ≡ length u
  third-three = omega (arith, length-three)

  -- the three sets of words that stand one after another
  pub three : sets_of (u ++ (m ++ q)) ≡ record { used = u; marked = m; pending = q }
  three =
      let after : drop (third (u ++ (m ++ q))) (u ++ (m ++ q)) ≡ m ++ q = drop_at u (m ++ q) _ (sym third-three) in
      let twice : 2 * third (u ++ (m ++ q)) ≡ third (u ++ (m ++ q)) + third (u ++ (m ++ q)) = omega arith in
      same_sets _ u _ m _ q (take_at u (m ++ q) _ (sym third-three))
      (ap (take (third (u ++ (m ++ q)))) after ∙ take_at m q _ (len ∙ sym third-three))
      (ap (λ n. drop n (u ++ (m ++ q))) twice ∙ sym (drop-drop (third (u ++ (m ++ q))) (third (u ++ (m ++ q))) (u ++ (m ++ q)))
      ∙ ap (drop (third (u ++ (m ++ q)))) after ∙ drop_at m q _ (len ∙ sym third-three))

module _ (ws : List ℕ) (thirds : 3 * third ws ≡ length ws) where
  pub used-len : length (sets_of ws).used ≡ third ws
  used-len = length-take-le (third ws) ws (omega (arith, thirds))

  pub pending-len : length (sets_of ws).pending ≡ third ws
  pending-len = omega (arith, length-drop (2 * third ws) ws, thirds)

  pub marked-len : length (sets_of ws).marked ≡ third ws
  marked-len = length-take-le (third ws) (drop (third ws) ws) (omega (arith, length-drop (third ws) ws, thirds))

  -- the words are those of the three sets, one after another
  pub are_three : ws ≡ (sets_of ws).used ++ ((sets_of ws).marked ++ (sets_of ws).pending)
  are_three =
      let twice : third ws + third ws ≡ 2 * third ws = omega arith in
      sym (take-append-drop (third ws) ws)
      ∙ ap (λ rest. take (third ws) ws ++ rest)
      (sym (take-append-drop (third ws) (drop (third ws) ws)) ∙ ap (λ rest. take (third ws) (drop (third ws) ws) ++ rest)
      (drop-drop (third ws) (third ws) ws ∙ ap (λ n. drop n ws) twice))

  -- the words with other ones in the place of the first set
  pub with_used : (x : List ℕ) → length x ≡ third ws
      → sets_of (x ++ drop (third ws) ws) ≡ record { used = x; marked = (sets_of ws).marked; pending = (sets_of ws).pending }
  with_used x len =
      let rest : drop (third ws) ws ≡ (sets_of ws).marked ++ (sets_of ws).pending = ap (drop (third ws)) are_three ∙ drop_at (sets_of ws).used _ (third ws) used-len in
      ap (λ r. sets_of (x ++ r)) rest ∙ three x (sets_of ws).marked (sets_of ws).pending (marked-len ∙ sym len) (pending-len ∙ sym len)

  -- the words with other ones in the place of the second set
  pub with_marked : (x : List ℕ) → length x ≡ third ws
      → sets_of (take (third ws) ws ++ (x ++ drop (third ws) (drop (third ws) ws))) ≡ record { used = (sets_of ws).used; marked = x; pending = (sets_of ws).pending }
  with_marked x len =
      let rest : drop (third ws) (drop (third ws) ws) ≡ (sets_of ws).pending = drop-drop (third ws) (third ws) ws ∙ (let twice : third ws + third ws ≡ 2 * third ws = omega arith in ap (λ n. drop n ws) twice) in
      ap (λ r. sets_of (take (third ws) ws ++ (x ++ r))) rest ∙ three (sets_of ws).used x (sets_of ws).pending (len ∙ sym used-len) (pending-len ∙ sym used-len)

  -- the words with other ones in the place of the third set
  pub with_pending : (x rest : List ℕ) → length x ≡ third ws → length rest ≡ 0
      → sets_of (take (2 * third ws) ws ++ (x ++ rest)) ≡ record { used = (sets_of ws).used; marked = (sets_of ws).marked; pending = x }
  with_pending x rest len none =
      let twice : length (sets_of ws).used + length (sets_of ws).marked ≡ 2 * third ws = omega (arith, used-len, marked-len) in
      let before : take (2 * third ws) ws ≡ (sets_of ws).used ++ (sets_of ws).marked =
      ap (take (2 * third ws)) (are_three ∙ sym (append_assoc (sets_of ws).used (sets_of ws).marked (sets_of ws).pending))
      ∙ take_at ((sets_of ws).used ++ (sets_of ws).marked) _ (2 * third ws) (length-append (sets_of ws).used (sets_of ws).marked ∙ twice) in
      ap (λ b. sets_of (b ++ (x ++ rest))) before ∙ ap sets_of (append_assoc (sets_of ws).used (sets_of ws).marked (x ++ rest))
      ∙ ap (λ r. sets_of ((sets_of ws).used ++ ((sets_of ws).marked ++ (x ++ r)))) (nil_from_length rest none) ∙ ap (λ r. sets_of ((sets_of ws).used ++ ((sets_of ws).marked ++ r))) (append-nil x)
      ∙ three (sets_of ws).used (sets_of ws).marked x (marked-len ∙ sym used-len) (len ∙ sym used-len)

-- the sets after a write to one of them, where `vs` is what the words were
module _ (ws vs x : List ℕ) (n k : ℕ) (thirds : 3 * third ws ≡ length ws) (was : vs ≡ ws) (first : n ≡ third ws) (len : length x ≡ third ws) where
  pub put_used : k ≡ third ws → sets_of (x ++ drop k vs) ≡ record { used = x; marked = (sets_of ws).marked; pending = (sets_of ws).pending }
  put_used count = rw (was, count) (with_used ws thirds x len)

  pub put_marked : k ≡ third ws → sets_of (take n vs ++ (x ++ drop k (drop n vs))) ≡ record { used = (sets_of ws).used; marked = x; pending = (sets_of ws).pending }
  put_marked count = rw (was, first, count) (with_marked ws thirds x len)

  pub put_pending : k ≡ third ws → sets_of (take (2 * n) vs ++ (x ++ drop k (drop (2 * n) vs))) ≡ record { used = (sets_of ws).used; marked = (sets_of ws).marked; pending = x }
  put_pending count =
      rw (was, first, count)
      (with_pending ws thirds x (drop (third ws) (drop (2 * third ws) ws)) len
      (omega (arith, length-drop (third ws) (drop (2 * third ws) ws), length-drop (2 * third ws) ws, thirds)))

-- one set is another one now, and the others are as they were
module _ (s : ThreeSets) (u m q : List ℕ) (are : s ≡ record { used = u; marked = m; pending = q }) where
  pub rest_used : s ≡ record { used = s.used; marked = m; pending = q }
  rest_used = are ∙ ap (λ x. record { used = x; marked = m; pending = q }) (sym (ap (λ t. t.used) are))

  pub rest_marked : s ≡ record { used = u; marked = s.marked; pending = q }
  rest_marked = are ∙ ap (λ x. record { used = u; marked = x; pending = q }) (sym (ap (λ t. t.marked) are))

  pub rest_pending : s ≡ record { used = u; marked = m; pending = s.pending }
  rest_pending = are ∙ ap (λ x. record { used = u; marked = m; pending = x }) (sym (ap (λ t. t.pending) are))

-- how many words a set has
pub part_len : (ws vs : List ℕ) (n k : ℕ) → 3 * third ws ≡ length ws → vs ≡ ws → k ≡ third ws → n ≤ 2 * third ws → length (take k (drop n vs)) ≡ third ws
part_len ws vs n k thirds was count low =
    length-take-le k (drop n vs) (omega (arith, count, low, length-drop n vs, ap (λ xs. length xs) was, thirds)) ∙ count

-- the second set, where `vs` is what the words were
pub second_of : (ws vs : List ℕ) (n k : ℕ) → vs ≡ ws → n ≡ third ws → k ≡ third ws → take k (drop n vs) ≡ (sets_of ws).marked
second_of ws vs n k was first count = rw (was, first, count) refl

-- three empty sets
pub three_empty : (n : ℕ) → replicate (3 * n) 0 ≡ replicate {A = ℕ} n 0 ++ (replicate n 0 ++ replicate n 0)
three_empty n =
    let all : 3 * n ≡ n + (n + n) = omega arith in
    ap (λ m. replicate m 0) all ∙ sym (replicate-append-replicate n (n + n) 0)
    ∙ ap (λ q. replicate {A = ℕ} n 0 ++ q) (sym (replicate-append-replicate n n 0))

pub empty_sets : (n : ℕ) (words : List ℕ) → words ≡ replicate (3 * n) 0
    → sets_of words ≡ record { used = replicate n 0; marked = replicate n 0; pending = replicate n 0 }
empty_sets n words are = ap sets_of (are ∙ three_empty n) ∙ three (replicate n 0) (replicate n 0) (replicate n 0) refl refl

-- the words of the second set, copied over those of the first
pub sweep_sets : (ws : List ℕ) (n : ℕ) → 3 * third ws ≡ length ws → n ≡ third ws
    → sets_of (take (2 * n - n) (drop n ws) ++ drop (0 + (2 * n - n)) ws) ≡ record { used = (sets_of ws).marked; marked = (sets_of ws).marked; pending = (sets_of ws).pending }
sweep_sets ws n thirds first =
    let count : 2 * n - n ≡ third ws = omega (arith, first) in
    let after : 0 + (2 * n - n) ≡ third ws = omega (arith, first) in
    rw (after, count, first) (with_used ws thirds (sets_of ws).marked (marked-len ws thirds))
