-- Rings on which each place is alone make empty lists.
use Rattle.std.proofs.Common.{◌≡◌, ℕ, ◌+◌, ◌-◌, ◌^◌, ◌<◌, List, [], length, map, get_or, replicate, None, ⊎_elim, sym, ap, subst, ◌∙◌, arith, length-append}
use Rattle.std.specs.List.{range_with_len}
use Rattle.std.proofs.lemmas.Bool.{cases_lt}
use Rattle.std.proofs.lemmas.Option.{none-some}
use Rattle.std.proofs.lemmas.List.{get_or_append_left, get_or-append_right, get_or-replicate, get_or_past, length-replicate}
use Rattle.std.proofs.lemmas.List.FromFn.{length-map-range_with_len, get_or-map-range_with_len}
use Rattle.gt_links.specs.declared.rings.Entry.{Entry}
use Rattle.gt_links.specs.declared.rings.Neighbour.{Neighbour}
use Rattle.gt_links.specs.declared.rings.Neighbour.TheVariants.{Head, Node}
use Rattle.gt_links.specs.declared.rings.Rings.{Rings}
use Rattle.gt_links.specs.Lists.{empty_lists, nodes_of}
use Rattle.gt_links.specs.Links.{IsChain, IsMadeOf}
use Rattle.gt_links.proofs.Among.{IsAmong, IsAmong-from_Contains}
use Rattle.gt_links.specs.Rings.{IsPlace, no_entry, lone_entry, lone_entries, entry_of, next_of, previous_of, list_of}

pub nodes_of-empty : (lists nodes i : ℕ) → nodes_of (empty_lists lists nodes) i ≡ []
nodes_of-empty lists nodes i =
    ⊎_elim
    (λ within. get_or-replicate lists i [] [] within)
    (λ past. let n = length-replicate {A = List ℕ} lists [] in get_or_past (replicate lists []) i [] (omega arith))
    (cases_lt i lists)

module _ (r : Rings) (lists nodes : ℕ) (count : r.lists ≡ lists) (alone : r.entries.items ≡ lone_entries lists nodes) where
  head_count : length (map (λ i. lone_entry (Head i)) (range_with_len 0 lists)) ≡ lists
  head_count = length-map-range_with_len (λ i. lone_entry (Head i)) 0 lists

  size : length r.entries.items ≡ lists + nodes
  size =
      let both : length (lone_entries lists nodes) ≡ length (map (λ i. lone_entry (Head i)) (range_with_len 0 lists)) + length (map (λ x. lone_entry (Node x)) (range_with_len 0 nodes)) =
      length-append (map (λ i. lone_entry (Head i)) (range_with_len 0 lists)) (map (λ x. lone_entry (Node x)) (range_with_len 0 nodes)) in
      let node_count = length-map-range_with_len (λ x. lone_entry (Node x)) 0 nodes in
      ap length alone ∙ omega (arith, head_count)

  entry_of-lone : (p : Neighbour) → IsPlace r p → entry_of r p ≡ lone_entry p
  entry_of-lone (Head i) at =
      let fronts = map (λ i. lone_entry (Head i)) (range_with_len 0 lists) in
      let backs = map (λ x. lone_entry (Node x)) (range_with_len 0 nodes) in
      let below : i < lists = omega (arith, at.0) in
      ap (λ es. get_or es i no_entry) alone
      ∙ (get_or_append_left fronts backs no_entry i (omega (arith, head_count))
      ∙ get_or-map-range_with_len (λ i. lone_entry (Head i)) 0 lists i i no_entry below (omega arith))
  entry_of-lone (Node x) at =
      let fronts = map (λ i. lone_entry (Head i)) (range_with_len 0 lists) in
      let backs = map (λ x. lone_entry (Node x)) (range_with_len 0 nodes) in
      let below : x < nodes = omega (arith, at, size) in
      ap (λ es. get_or es (r.lists + x) no_entry) alone
      ∙ (get_or-append_right fronts backs lists (r.lists + x) no_entry head_count (omega arith)
      ∙ get_or-map-range_with_len (λ x. lone_entry (Node x)) 0 nodes ((r.lists + x) - lists) x no_entry (omega arith) (omega arith))

  pub IsMadeOf-empty : lists < 2 ^ 32 → nodes < 2 ^ 32 → IsMadeOf r (empty_lists lists nodes)
  IsMadeOf-empty few_lists few_nodes =
      let s = empty_lists lists nodes in
      let long : length s.lists ≡ lists = length-replicate {A = List ℕ} lists [] in
      let next : (p : Neighbour) → IsPlace r p → next_of r p ≡ p = λ p at. ap (λ (e : Entry). e.next) (entry_of-lone p at) in
      let previous : (p : Neighbour) → IsPlace r p → previous_of r p ≡ p =
      λ p at. ap (λ (e : Entry). e.previous) (entry_of-lone p at) in
      let head : (i : ℕ) → i < length s.lists → IsPlace r (Head i) =
      λ i within. (omega arith, omega (arith, size)) in
      let node : (x : ℕ) → x < nodes → IsPlace r (Node x) = λ x within. omega (arith, size) in
      record {
        lists = count ∙ sym long;
        entries = size ∙ ap (λ n. n + nodes) (sym long);
        agree = record {
          next_leads = λ p at. subst (IsPlace r) (sym (next p at)) at;
          previous_leads = λ p at. subst (IsPlace r) (sym (previous p at)) at;
          back = λ p at. ap (previous_of r) (next p at) ∙ previous p at;
          forth = λ p at. ap (next_of r) (previous p at) ∙ next p at;
        };
        chains = λ i within.
            subst (λ xs. IsChain r (Head i) xs (Head i)) (sym (nodes_of-empty lists nodes i)) (next (Head i) (head i within));
        owners = λ i x within.
            let none : list_of r (Node x) ≡ None = ap (λ (e : Entry). e.list) (entry_of-lone (Node x) (node x within)) in
            ((λ h. absurd (subst (IsAmong x) (nodes_of-empty lists nodes i) (IsAmong-from_Contains x (nodes_of s i) h))), λ e. absurd (none-some i (sym none ∙ e)));
        alone = λ x within _. next (Node x) (node x within);
        few_lists = subst (λ n. n < 2 ^ 32) (sym long) few_lists;
        few_nodes = few_nodes;
      }
