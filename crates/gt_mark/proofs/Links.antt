-- Blocks of a chain that are walked alike.
use Rattle.std.proofs.Common.{◌≡◌, ◌∙◌, ℕ, ◌+◌, ◌<◌, ◌^◌, ◌==◌, Bool, true, false, cond, nat_lt, List, ◌∷◌, ◌++◌, Some, None, refl, sym, ap, subst, inl, inr, arith}
use Rattle.std.specs.Prelude.{◌&&◌, Contains, option_and_then}
use Rattle.std.proofs.lemmas.Bool.{eqb-true, false≢true}
use Rattle.std.proofs.lemmas.Grind.{flat_map-append}
use Rattle.std.proofs.lemmas.List.Elements.{Contains-append_cases, Contains-append_left, Contains-append_right}
use Rattle.gt_space.specs.Range.{Range}
use Rattle.gt_walk.specs.declared.rows.Arm.{Arm}
use Rattle.gt_walk.specs.declared.rows.Count.TheVariants.{Fixed, Length}
use Rattle.gt_walk.specs.declared.rows.WalkRow.{WalkRow, out-WalkRow}
use Rattle.gt_walk.specs.declared.rows.WalkRow.TheOpen as part
use Rattle.gt_walk.specs.declared.rows.WalkRow.TheOpen.{WalkRow-F}
use Rattle.gt_walk.specs.declared.tables.Tables.{Tables}
use Rattle.gt_walk.specs.Rows.{Edge, edges_of, rows_of, size_in_note, word_at}
use Rattle.gt_walk.specs.ByRows.{after_note, element_edges}
use Rattle.gt_walk.specs.Visiting.{element_row, fixed_edges, is_plain, plain_edges}
use Rattle.gt_walk.proofs.PlainRows.{after-note, element-plain}
use Rattle.gt_walk.proofs.Visits.{edges-rows, run-single}
use Rattle.gt_mark.specs.declared.chains.Links.{Links}
use Rattle.gt_mark.specs.declared.stack.Block.{Block}
use Rattle.gt_mark.specs.Chains.{AreLinks, HasLink, chain_place, is_link}
use Rattle.gt_mark.specs.Rounds.{chain_in_note}
use Rattle.gt_mark.specs.Steps.{one_of}

-- ---- the row of the chain pointer

both_true : (a b : Bool) → (a && b) ≡ true → (a ≡ true) × (b ≡ true)
both_true true b h = (refl, h)
both_true false b h = absurd (false≢true h)

pub link_plain : (offset walk : ℕ) (x : WalkRow-F WalkRow Arm) → is_link offset walk x ≡ true → is_plain x ≡ true
link_plain offset walk (part.Note size chain) e = absurd (false≢true e)
link_plain offset walk (part.Ptr at to (Fixed n) reorder) e = refl
link_plain offset walk (part.Ptr at to (Length len) reorder) e = absurd (false≢true (both_true (at == offset && to == walk) false e).1)
link_plain offset walk (part.Sub at to) e = absurd (false≢true e)
link_plain offset walk (part.Rep at n size elem) e = absurd (false≢true e)
link_plain offset walk (part.Tail at len size elem) e = absurd (false≢true e)
link_plain offset walk (part.Switch desc arms) e = absurd (false≢true e)

link_fixed : (range : Range) (address offset walk : ℕ) (x : WalkRow-F WalkRow Arm) → is_link offset walk x ≡ true → plain_edges range address x ≡ fixed_edges (address + offset) walk 1 (word_at range (address + offset))
link_fixed range address offset walk (part.Note size chain) e = absurd (false≢true e)
link_fixed range address offset walk (part.Ptr at to (Fixed n) reorder) e =
    let last = both_true (at == offset && to == walk) (n == 1) e in
    let both = both_true (at == offset) (to == walk) last.0 in
    ap (λ o. fixed_edges (address + o) to n (word_at range (address + o))) (eqb-true at offset both.0)
    ∙ ap (λ w. fixed_edges (address + offset) w n (word_at range (address + offset))) (eqb-true to walk both.1)
    ∙ ap (λ c. fixed_edges (address + offset) walk c (word_at range (address + offset))) (eqb-true n 1 last.1)
link_fixed range address offset walk (part.Ptr at to (Length len) reorder) e = absurd (false≢true (both_true (at == offset && to == walk) false e).1)
link_fixed range address offset walk (part.Sub at to) e = absurd (false≢true e)
link_fixed range address offset walk (part.Rep at n size elem) e = absurd (false≢true e)
link_fixed range address offset walk (part.Tail at len size elem) e = absurd (false≢true e)
link_fixed range address offset walk (part.Switch desc arms) e = absurd (false≢true e)

-- ---- its edges

module _ (tables : Tables) (space : Range) (b : Block) (l : Links) (are : AreLinks tables space b l) where
  -- what the chain pointer gives, and the rows before it and after it
  abbrev pub chain_edges : List Edge
  chain_edges = fixed_edges (b.addr + l.offset) l.walk 1 (word_at space (b.addr + l.offset))

  abbrev pub edges_before : List Edge
  edges_before = element_edges tables space l.before.now b.addr

  abbrev pub edges_after : List Edge
  edges_after = element_edges tables space l.after.now b.addr

  -- the edges of such a block
  pub link_edges : edges_of tables b.walk b.count space b.addr ≡ edges_before ++ (chain_edges ++ edges_after)
  link_edges =
      let rows = rows_of tables b.walk in
      let x = are.rows.link in
      edges-rows tables space b.walk b.count b.addr rows refl ∙ run-single tables space rows b.addr (size_in_note rows) b.count are.one
      ∙ after-note tables space rows b.addr ∙ ap (λ xs. element_edges tables space xs b.addr) are.rows.around
      ∙ flat_map-append (λ row. element_row tables space b.addr row) l.before.now (x ∷ l.after.now)
      ∙ ap (λ es. edges_before ++ (es ++ edges_after))
      (element-plain tables space b.addr x (link_plain l.offset l.walk (out-WalkRow x) are.rows.is) ∙ link_fixed space b.addr l.offset l.walk (out-WalkRow x) are.rows.is)

  -- in the order in which they are taken
  pub link_every : (e : Edge) → Contains (edges_of tables b.walk b.count space b.addr) e → Contains (chain_edges ++ (edges_before ++ edges_after)) e
  link_every e there = elim (Contains-append_cases edges_before (chain_edges ++ edges_after) e (subst (λ es. Contains es e) link_edges there)) [
    | inl before ↦ Contains-append_right chain_edges (edges_before ++ edges_after) e (Contains-append_left edges_before edges_after e before)
    | inr rest ↦ elim (Contains-append_cases chain_edges edges_after e rest) [
      | inl here ↦ Contains-append_left chain_edges (edges_before ++ edges_after) e here
      | inr after ↦ Contains-append_right chain_edges (edges_before ++ edges_after) e (Contains-append_right edges_before edges_after e after)
    ]
  ]

  pub link_only : (e : Edge) → Contains (chain_edges ++ (edges_before ++ edges_after)) e → Contains (edges_of tables b.walk b.count space b.addr) e
  link_only e there = subst (λ es. Contains es e) (sym link_edges) (elim (Contains-append_cases chain_edges (edges_before ++ edges_after) e there) [
    | inl here ↦ Contains-append_right edges_before (chain_edges ++ edges_after) e (Contains-append_left chain_edges edges_after e here)
    | inr rest ↦ elim (Contains-append_cases edges_before edges_after e rest) [
      | inl before ↦ Contains-append_left edges_before (chain_edges ++ edges_after) e before
      | inr after ↦ Contains-append_right edges_before (chain_edges ++ edges_after) e (Contains-append_right chain_edges edges_after e after)
    ]
  ])

  lt_true : (m n : ℕ) → m < n → nat_lt m n ≡ true
  lt_true m n lt = grind (arith, lt)

  -- where its chain pointer lies
  pub link_place : b.addr < l.end → Some (b.addr + l.offset) ≡ chain_place (rows_of tables b.walk) b
  link_place inside =
      let near = are.near in
      let small = are.small in
      let fits : b.addr + l.offset < 2 ^ 64 = omega (arith, inside, near, small) in
      sym (
      ap (λ n. cond (n == 1) (option_and_then (λ offset. cond (nat_lt (b.addr + offset) (2 ^ 64)) (Some (b.addr + offset)) None) (chain_in_note (rows_of tables b.walk))) None) are.one
      ∙ ap (option_and_then (λ offset. cond (nat_lt (b.addr + offset) (2 ^ 64)) (Some (b.addr + offset)) None)) are.chain
      ∙ ap (λ x. cond x (Some (b.addr + l.offset)) None) (lt_true (b.addr + l.offset) (2 ^ 64) fits)
      )

-- another block of one element of the same walk
pub link_next : (tables : Tables) (space : Range) (b : Block) (l : Links) (address : ℕ) → AreLinks tables space b l → AreLinks tables space (one_of l.walk address) l
link_next tables space b l address are = record {
  one = refl;
  walk = refl;
  rows = subst (λ w. HasLink l.offset l.walk (after_note (rows_of tables w)) l.before.now l.after.now) are.walk are.rows;
  chain = subst (λ w. chain_in_note (rows_of tables w) ≡ Some l.offset) are.walk are.chain;
  near = are.near;
  end = are.end;
  small = are.small;
  words = are.words;
}

-- such a block is told by its address
pub link_block : (tables : Tables) (space : Range) (b : Block) (l : Links) → AreLinks tables space b l → b ≡ one_of l.walk b.addr
link_block tables space b l are = ap (λ w. record b { walk = w }) are.walk ∙ ap (λ n. record b { walk = l.walk; count = n }) are.one
