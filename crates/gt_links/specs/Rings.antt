-- No promise: the rings, and what the calls of the rings do to them.
use Rattle.std.specs.List.{range_with_len}
use Rattle.std.specs.Prelude.{◌++◌, map, ◌≡◌, ◌≢◌, ℕ, ◌+◌, ◌<◌, List, length, slice_index_or, Option, Some, None}
use Rattle.gt_links.specs.declared.rings.Neighbour.{Neighbour}
use Rattle.gt_links.specs.declared.rings.Neighbour.TheVariants.{Head, Node}
use Rattle.gt_links.specs.declared.rings.Entry.{Entry}
use Rattle.gt_links.specs.declared.rings.Rings.{Rings}

-- the node that a place is; none at a head
abbrev pub node_of : Neighbour → Option ℕ
node_of (Head i) = None
node_of (Node x) = Some x

-- where a place stands in the vector: the heads of the lists first, then the nodes
abbrev pub index_of : Rings → Neighbour → ℕ
index_of r (Head i) = i
index_of r (Node x) = r.lists + x

-- a place that there is: a head of one of the lists, or a node within the vector
abbrev pub IsPlace : Rings → Neighbour → Type 0
IsPlace r (Head i) = (i < r.lists) × (i < length r.entries.items)
IsPlace r (Node x) = r.lists + x < length r.entries.items

-- what stands past the end of the vector, which nothing reads
abbrev pub no_entry : Entry
no_entry = record { previous = Head 0; next = Head 0; list = None }

-- the entry of a place that is alone on its ring
abbrev pub lone_entry : Neighbour → Entry
lone_entry p = record { previous = p; next = p; list = None }

-- each head alone, and then each node
abbrev pub lone_entries : ℕ → ℕ → List Entry
lone_entries lists nodes =
    map (λ i. lone_entry (Head i)) (range_with_len 0 lists) ++ map (λ x. lone_entry (Node x)) (range_with_len 0 nodes)

-- the entry of a place
abbrev pub entry_of : Rings → Neighbour → Entry
entry_of r p = slice_index_or r.entries.items (index_of r p) no_entry

-- the place after p on its ring
abbrev pub next_of : Rings → Neighbour → Neighbour
next_of r p = (entry_of r p).next

-- the place before p on its ring
abbrev pub previous_of : Rings → Neighbour → Neighbour
previous_of r p = (entry_of r p).previous

-- the list that a place is said to be in
abbrev pub list_of : Rings → Neighbour → Option ℕ
list_of r p = (entry_of r p).list

-- as many heads and as many nodes as before
pub record SameSize (old new : Rings) : Type 0 where
  pub lists : new.lists ≡ old.lists
  pub length : length new.entries.items ≡ length old.entries.items

-- p has this entry now, and each other place the entry that it had
pub record Writes (old new : Rings) (p : Neighbour) (entry : Entry) : Type 0 where
  pub size : SameSize old new
  pub written : entry_of new p ≡ entry
  pub others : (q : Neighbour) → IsPlace old q → q ≢ p → entry_of new q ≡ entry_of old q

-- q comes right after p, both ways; no other link changes, and no place changes its list
pub record Joins (old new : Rings) (p q : Neighbour) : Type 0 where
  pub size : SameSize old new
  pub next : next_of new p ≡ q
  pub previous : previous_of new q ≡ p
  pub other_next : (r : Neighbour) → IsPlace old r → r ≢ p → next_of new r ≡ next_of old r
  pub other_previous : (r : Neighbour) → IsPlace old r → r ≢ q → previous_of new r ≡ previous_of old r
  pub lists : (r : Neighbour) → IsPlace old r → list_of new r ≡ list_of old r

-- each link leads to a place, and the link in the other direction leads back
pub record LinksAgree (r : Rings) : Type 0 where
  pub next_leads : (p : Neighbour) → IsPlace r p → IsPlace r (next_of r p)
  pub previous_leads : (p : Neighbour) → IsPlace r p → IsPlace r (previous_of r p)
  pub back : (p : Neighbour) → IsPlace r p → previous_of r (next_of r p) ≡ p
  pub forth : (p : Neighbour) → IsPlace r p → next_of r (previous_of r p) ≡ p

-- what was after q comes after p, and what was after p comes after q; after each other place comes what did, and no place changes its list
pub record Splices (old new : Rings) (p q : Neighbour) : Type 0 where
  pub size : SameSize old new
  pub first : next_of new p ≡ next_of old q
  pub second : next_of new q ≡ next_of old p
  pub others : (r : Neighbour) → IsPlace old r → r ≢ p → r ≢ q → next_of new r ≡ next_of old r
  pub lists : (r : Neighbour) → IsPlace old r → list_of new r ≡ list_of old r

-- node x comes right after p, in list i, and then what was after p; after each other place comes what did, and no other changes its list
pub record Inserts (old new : Rings) (p : Neighbour) (x i : ℕ) : Type 0 where
  pub size : SameSize old new
  pub agree : LinksAgree new
  pub before : next_of new p ≡ Node x
  pub node : next_of new (Node x) ≡ next_of old p
  pub others : (r : Neighbour) → IsPlace old r → r ≢ p → r ≢ Node x → next_of new r ≡ next_of old r
  pub list : list_of new (Node x) ≡ Some i
  pub lists : (r : Neighbour) → IsPlace old r → r ≢ Node x → list_of new r ≡ list_of old r

-- node x is alone, in no list; what was before it is before what was after it; after each other place comes what did, and no other changes its list
pub record Removes (old new : Rings) (x : ℕ) : Type 0 where
  pub size : SameSize old new
  pub agree : LinksAgree new
  pub before : next_of new (previous_of old (Node x)) ≡ next_of old (Node x)
  pub node : next_of new (Node x) ≡ Node x
  pub others : (r : Neighbour) → IsPlace old r → r ≢ previous_of old (Node x) → r ≢ Node x → next_of new r ≡ next_of old r
  pub list : list_of new (Node x) ≡ None
  pub lists : (r : Neighbour) → IsPlace old r → r ≢ Node x → list_of new r ≡ list_of old r
