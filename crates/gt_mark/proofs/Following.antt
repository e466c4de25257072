-- Walking a block whose chain pointer is followed first.
use Rattle.std.proofs.Common.{◌≡◌, ℕ, ◌+◌, ◌<◌, List, ◌++◌, Option, Some, None, sym, ap, subst, ◌∙◌, arith}
use Rattle.std.specs.Prelude.{All, Contains, option_map}
use Rattle.std.proofs.lemmas.List.Elements.{All-contains, Contains-append_left, Contains-append_right}
use Rattle.gt_space.specs.Range.{Range}
use Rattle.gt_pages.specs.Slots.{StartsSome}
use Rattle.gt_walk.specs.declared.tables.Tables.{Tables}
use Rattle.gt_walk.specs.Rows.{Edge, edge, edges_of, word_at}
use Rattle.gt_walk.specs.Sinks.{CanTake, Took}
use Rattle.gt_walk.proofs.Taking.{Went, went-front, went-on, went-start}
use Rattle.gt_mark.specs.declared.chains.Links.{Links}
use Rattle.gt_mark.specs.declared.stack.Block.{Block}
use Rattle.gt_mark.specs.declared.marker.Marker.{Marker}
use Rattle.gt_mark.specs.Chains.{AreLinks}
use Rattle.gt_mark.specs.Steps.{Task, Follows, Goes, Good, Holds, Leaves, Suits, Takes, one_of, state_of, with_targets}
use Rattle.gt_mark.specs.Wide.{Wide}
use Rattle.gt_mark.proofs.EdgeWords.{edges-read}
use Rattle.gt_mark.proofs.Going.{all_from, block_fits, starts_now}
use Rattle.gt_mark.proofs.Blocks.{goes_taken, good_chained, taken_all, takes_both}
use Rattle.gt_mark.proofs.Holding.{IsBare, can_held, fixed_begun, fixed_has, follows_bare, follows_takes, held, took_held}
use Rattle.gt_mark.proofs.Links.{chain_edges, edges_after, edges_before, link_every, link_only, link_place}
use Rattle.gt_mark.proofs.Widening.{wide_taken}

module _ {tables : Tables} {space : Range} (t : Task tables space) (begun : List ℕ) (b : Block) (l : Links) (are : AreLinks tables space b l) (inside : b.addr < l.end) (m : Marker) (h : Holds t begun (Some b) (state_of m)) where
  abbrev place : ℕ
  place = b.addr + l.offset

  abbrev first : List Edge
  first = chain_edges tables space b l are

  abbrev rest : List Edge
  rest = edges_before tables space b l are ++ edges_after tables space b l are

  held_start : held place None (state_of m) ≡ record (state_of m) { chain = Some place }
  held_start = ap (λ x. record (state_of m) { chain = Some place; next = x }) (sym h.idle)

  suits : (e : Edge) → Contains (first ++ rest) e → Suits t e
  suits e there = All-contains (Suits t) (edges_of tables b.walk b.count space b.addr) e (block_fits t b h.fits) (link_only tables space b l are e there)

  pub fit_rest : All (Suits t) rest
  fit_rest = all_from (Suits t) rest (λ e there. suits e (Contains-append_right first rest e there))

  -- the block that the chain pointer names starts there
  pub follow_starts : (target : ℕ) → word_at space place ≡ Some target → 0 < target → StartsSome (state_of m).pages.slots target
  follow_starts target word some =
      let e : Edge = edge place target l.walk 1 in
      let there = fixed_has place l.walk target (word_at space place) word some in
      starts_now t begun (Some b.addr) (state_of m) h.good target (suits e (Contains-append_left first rest e there)).starts

  module _ (found : Option ℕ) (n : Marker) (follows : Follows space place l.walk (state_of m) found (state_of n)) where
    -- the block that it named
    abbrev block : Option Block
    block = option_map (one_of l.walk) found

    taken : Takes (held place None (state_of m)) first (held place block (state_of n))
    taken =
        let near = are.near in
        let small = are.small in
        follows_takes space place l.walk (state_of m) found (state_of n) (omega (arith, near, small, inside)) follows

    abbrev begun_first : List ℕ
    begun_first = with_targets first begun

    pub good_held : Good t begun_first (Some b.addr) (held place block (state_of n))
    good_held =
        (taken_all t (Some b.addr) first begun (held place None (state_of m)) (held place block (state_of n))
        (all_from (Suits t) first (λ e there. suits e (Contains-append_left first rest e there)))
        (subst (Good t begun (Some b.addr)) (sym held_start) (good_chained t begun b h.fits (state_of m) (Some place) h.good)) taken).good

    pub bare_held : IsBare (state_of n)
    bare_held = follows_bare space place l.walk (state_of m) found (state_of n) (record { chain = h.unchained; next = h.idle }) follows

    pub named_held : (e : Edge) → Contains rest e → place ≡ e.place → Contains begun_first e.target
    named_held e there at =
        let in-all = Contains-append_right first rest e there in
        let read : word_at space e.place ≡ Some e.target = edges-read tables b.walk b.count space b.addr e (link_only tables space b l are e in-all) in
        let starts = (suits e in-all).starts in
        fixed_begun place l.walk e.target (word_at space place) begun (ap (word_at space) at ∙ read) (subst (λ a. 0 < a) starts.2 (t.positive starts.0 starts.1))

    pub can_rest : CanTake (λ m e. StartsSome m.pages.now.slots e.target) Leaves n rest
    can_rest = can_held t (Some b.addr) place block rest begun_first n fit_rest good_held bare_held named_held

    abbrev before : List Edge
    before = edges_before tables space b l are

    abbrev after : List Edge
    after = edges_after tables space b l are

    abbrev Starts : Marker → Edge → Type 0
    Starts m e = StartsSome m.pages.now.slots e.target

    -- the rows before it, and then those after it
    pub can_before : CanTake Starts Leaves n before
    can_before = went-front Starts Leaves n n rest before after (went-start Starts Leaves n rest can_rest)

    module _ (between : Marker) (took : Took Leaves n before between) where
      went_between : Went Starts Leaves n rest between after
      went_between = went-on Starts Leaves n n between rest before after (went-start Starts Leaves n rest can_rest) took

      pub can_after : CanTake Starts Leaves between after
      can_after = went_between.can

      pub took_rest : (o : Marker) → Took Leaves between after o → Took Leaves n rest o
      took_rest o = went_between.took o

    module _ (o : Marker) (took : Took Leaves n rest o) where
      pub takes : Takes (record (state_of m) { chain = Some place }) (first ++ rest) (held place block (state_of o))
      takes =
          subst (λ s. Takes s (first ++ rest) (held place block (state_of o))) held_start
          (takes_both first rest (held place None (state_of m)) (held place block (state_of n)) (held place block (state_of o)) taken
          (took_held t (Some b.addr) place block rest begun_first n o fit_rest good_held bare_held named_held took).takes)

      done : record (held place block (state_of o)) { chain = None; next = None } ≡ state_of o
      done =
          let bare = (took_held t (Some b.addr) place block rest begun_first n o fit_rest good_held bare_held named_held took).bare in
          ap (λ c. record (state_of o) { chain = c; next = None }) (sym bare.chain) ∙ ap (λ x. record (state_of o) { next = x }) (sym bare.next)

      pub goes_following : Goes t begun block (state_of m) (state_of o)
      goes_following =
          subst (Goes t begun block (state_of m)) done
          (goes_taken t begun b (state_of m) h (Some place) (first ++ rest) (all_from (Suits t) (first ++ rest) suits) (link_every tables space b l are) (held place block (state_of o)) takes)

      pub wide_following : Wide t (state_of m) (Some b) → Wide t (state_of o) block
      wide_following w =
          subst (λ s. Wide t s block) done
          (wide_taken t begun b (state_of m) h w (Some place) (link_place tables space b l are inside) (first ++ rest) (all_from (Suits t) (first ++ rest) suits)
          (link_every tables space b l are) (link_only tables space b l are) (held place block (state_of o)) takes)
