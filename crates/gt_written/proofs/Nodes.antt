-- The lines of all nodes.
use Rattle.std.proofs.Common.{ℕ, zero, suc, ◌+◌, ◌*◌, ◌<◌, ◌≤◌, ◌^◌, Bool, true, false, cond, List, [], ◌∷◌, ◌++◌, length, arith}
use Rattle.std.specs.Prelude.{codes, ◌==◌, ◌%◌}
use Rattle.std.specs.List.{flat_map, range_with_len}
use Rattle.std.proofs.lemmas.List.{length-append}
use Rattle.gt_digits.specs.Digits.{decimal}
use Rattle.gt_generated.specs.Generated.{garbage_text, link_text, node_text, script_text}
use Rattle.gt_script.specs.declared.command.Line.{Line}
use Rattle.gt_split.specs.Texts.{lines_of}
use Rattle.gt_script.specs.Outcome.{Say, nothing, Parsed}
use Rattle.gt_written.specs.Lines.{new_line, key_line, next_line, other_line, head_line, get_line, link_lines, garbage_lines, node_lines, last_lines, script_lines}
use Rattle.gt_written.proofs.Adding.{Adds, adds_none, adds_both, adds_either}
use Rattle.gt_written.proofs.Commands.{n_adds, w_adds, key_adds, next_adds, other_adds, head_adds, get_adds, collect_adds, heap_adds, stats_adds}

-- ---- one node

first_adds : (i : ℕ) → i < 2 ^ 64 → Adds (codes "@new $n node\n@set $n.key " ++ decimal i ++ codes "\n") (new_line (codes "n") ∷ key_line i ∷ [])
first_adds i small = adds_both (codes "@new $n node\n") (codes "@set $n.key " ++ decimal i ++ codes "\n") (new_line (codes "n") ∷ []) (key_line i ∷ []) n_adds (key_adds i small)

heads_add : Adds (codes "@set head $n\n@get $p head\n") (head_line ∷ get_line ∷ [])
heads_add = adds_both (codes "@set head $n\n") (codes "@get $p head\n") (head_line ∷ []) (get_line ∷ []) head_adds get_adds

link_adds : (i : ℕ) → Adds (link_text i) (link_lines i)
link_adds i = adds_either (i == 0) _ _ _ _ adds_none next_adds

garbage_adds : (i : ℕ) → Adds (garbage_text i) (garbage_lines i)
garbage_adds i =
    adds_either (i % 3 == 2) _ _ _ _ (adds_both (codes "@new $w node\n") (codes "@set $w.other $n\n") (new_line (codes "w") ∷ []) (other_line ∷ []) w_adds other_adds) adds_none

node_adds : (i : ℕ) → i < 2 ^ 64 → Adds (node_text i) (node_lines i)
node_adds i small =
    let start : List ℕ = codes "@new $n node\n@set $n.key " ++ decimal i ++ codes "\n" in
    let heads : List ℕ = codes "@set head $n\n@get $p head\n" in
    let first : List Line = new_line (codes "n") ∷ key_line i ∷ [] in
    let last : List Line = head_line ∷ get_line ∷ [] in
    let linked = adds_both start (link_text i) first (link_lines i) (first_adds i small) (link_adds i) in
    let headed = adds_both (start ++ link_text i) heads (first ++ link_lines i) last linked heads_add in
    adds_both (start ++ link_text i ++ heads) (garbage_text i) (first ++ link_lines i ++ last) (garbage_lines i) headed (garbage_adds i)

-- ---- all nodes

nodes_add : (a n : ℕ) → a + n < 2 ^ 64 → Adds (flat_map node_text (range_with_len a n)) (flat_map node_lines (range_with_len a n))
nodes_add a zero small = adds_none
nodes_add a (suc n) small =
    adds_both (node_text a) (flat_map node_text (range_with_len (a + 1) n)) (node_lines a) (flat_map node_lines (range_with_len (a + 1) n)) (node_adds a (omega (arith, small))) (nodes_add (a + 1) n (omega (arith, small)))

last_say : Say (lines_of (codes "collect force\nheap\nstats\n")) last_lines
last_say = collect_adds (codes "heap\nstats\n") _ (heap_adds (codes "stats\n") _ (stats_adds [] [] nothing))

-- ---- how many

some_few : (b c : Bool) (i : ℕ) → length ((new_line (codes "n") ∷ key_line i ∷ []) ++ cond b [] (next_line ∷ []) ++ (head_line ∷ get_line ∷ []) ++ cond c (new_line (codes "w") ∷ other_line ∷ []) []) ≤ 7
some_few true true i = omega arith
some_few true false i = omega arith
some_few false true i = omega arith
some_few false false i = omega arith

node_few : (i : ℕ) → length (node_lines i) ≤ 7
node_few i = some_few (i == 0) (i % 3 == 2) i

nodes_few : (a n : ℕ) → length (flat_map node_lines (range_with_len a n)) ≤ 7 * n
nodes_few a zero = omega arith
nodes_few a (suc n) =
    omega (arith, node_few a, nodes_few (a + 1) n, length-append (node_lines a) (flat_map node_lines (range_with_len (a + 1) n)))

pub generated : (n : ℕ) → n ≤ 100000 → Parsed (script_text n) (script_lines n)
unfolding script_text script_lines
generated n small = record {
  few = omega (arith, small, nodes_few 0 n, length-append (flat_map node_lines (range_with_len 0 n)) last_lines);
  say = nodes_add 0 n (omega (arith, small)) (codes "collect force\nheap\nstats\n") last_lines last_say;
}
