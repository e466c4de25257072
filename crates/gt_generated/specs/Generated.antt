-- The header and the script of `:N`.
use Rattle.std.specs.Prelude.{ℕ, ◌==◌, ◌%◌, if◌then◌else◌, List, [], ◌++◌, codes}
use Rattle.std.specs.List.{flat_map, range_with_len}
use Rattle.gt_digits.specs.Digits.{decimal}

-- the header: nodes with a chain, two roots, a deletable root and a cache
unfoldable pub header_text : List ℕ
header_text =
    codes "struct GTY((chain_next(\"%h.next\"))) node {\n"
    ++ codes "  struct node *next;\n"
    ++ codes "  struct node *other;\n"
    ++ codes "  int key;\n"
    ++ codes "};\n"
    ++ codes "static GTY(()) struct node *head;\n"
    ++ codes "static GTY(()) struct node *tail;\n"
    ++ codes "static GTY((deletable)) struct node *memo;\n"
    ++ codes "static GTY((cache)) hash_map<struct node *, struct node *> *map;\n"

-- each node but the first points to the one before it
abbrev pub link_text : ℕ → List ℕ
link_text i = if i == 0 then [] else codes "@set $n.next $p\n"

-- each third node is pointed to by one that nothing reaches
abbrev pub garbage_text : ℕ → List ℕ
garbage_text i = if i % 3 == 2 then codes "@new $w node\n@set $w.other $n\n" else []

-- the lines of the i-th node, from 0: it becomes the head of the list
abbrev pub node_text : ℕ → List ℕ
node_text i =
    codes "@new $n node\n@set $n.key " ++ decimal i ++ codes "\n" ++ link_text i ++ codes "@set head $n\n@get $p head\n" ++ garbage_text i

-- the script: the lines of n nodes, a collection, and what the heap then holds
unfoldable pub script_text : ℕ → List ℕ
script_text n = flat_map node_text (range_with_len 0 n) ++ codes "collect force\nheap\nstats\n"
