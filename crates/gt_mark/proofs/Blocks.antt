-- What the edges of a block keep, and what walking a block does.
use Rattle.std.proofs.Common.{◌≡◌, ℕ, suc, List, [], ◌∷◌, ◌++◌, Option, Some, None, is_some, refl, sym, ap, subst, ◌∙◌, inl, inr, arith}
use Rattle.std.specs.Prelude.{All, Contains, option_map}
use Rattle.std.proofs.lemmas.Bool.{cases_eq}
use Rattle.std.proofs.lemmas.List.Elements.{All-head, All-tail}
use Rattle.gt_space.specs.Range.{Range}
use Rattle.gt_pages.specs.Slots.{StartsSome}
use Rattle.gt_walk.specs.declared.tables.Tables.{Tables}
use Rattle.gt_walk.specs.Rows.{Edge, edges_of}
use Rattle.gt_walk.specs.Sinks.{CanTake, Took}
use Rattle.gt_mark.specs.declared.stack.Block.{Block}
use Rattle.gt_mark.specs.declared.marker.Marker.{Marker}
use Rattle.gt_mark.specs.Reached.{block_edges}
use Rattle.gt_mark.specs.Steps.{State, Task, Good, Goes, Holds, Fits, Suits, Leaves, Takes, one_if, state_of, with_targets}
use Rattle.gt_mark.proofs.Remarked.{contains_cases, contains_head, contains_none}
use Rattle.gt_mark.proofs.Going.{Eases, block_fits, eases_on, eases_same, same_edges, starts_now, stepped}

-- ---- edges, one after another

pub targets_keep : (es : List Edge) (begun : List ℕ) (a : ℕ) → Contains begun a → Contains (with_targets es begun) a
targets_keep [] begun a there = there
targets_keep (e ∷ es) begun a there = targets_keep es (e.target ∷ begun) a (suc there.0, omega (arith, there.1), there.2)

pub targets_have : (es : List Edge) (begun : List ℕ) (e : Edge) → Contains es e → Contains (with_targets es begun) e.target
targets_have [] begun e there = contains_none e there
targets_have (x ∷ es) begun e there = elim (contains_cases x e es there) [
  | inl is ↦ targets_keep es (x.target ∷ begun) e.target (subst (λ y. Contains (x.target ∷ begun) y.target) is (contains_head x.target begun))
  | inr later ↦ targets_have es (x.target ∷ begun) e later
]

-- what a marker takes, its state takes
pub took_states : (es : List Edge) (m n : Marker) → Took Leaves m es n → Takes (state_of m) es (state_of n)
took_states [] m n took = ap state_of took
took_states (e ∷ es) m n took = (state_of took.0, took.1.small, took.1.step, took_states es took.0 n took.2)

pub took_reference : (es : List Edge) (m n : Marker) → Took Leaves m es n → n.pages.ghost_name ≡ m.pages.ghost_name
took_reference [] m n took = ap (λ x. x.pages.ghost_name) took
took_reference (e ∷ es) m n took = took_reference es took.0 n took.2 ∙ took.1.same_reference

pub takes_both : (xs ys : List Edge) (a b c : State) → Takes a xs b → Takes b ys c → Takes a (xs ++ ys) c
takes_both [] ys a b c first rest = subst (λ s. Takes s ys c) first rest
takes_both (x ∷ xs) ys a b c first rest = (first.0, first.1, first.2, takes_both xs ys first.0 b c first.3 rest)

module _ {tables : Tables} {space : Range} (t : Task tables space) (hand : Option ℕ) where
  pub record TakenAll (begun : List ℕ) (es : List Edge) (old new : State) : Type 0 where
    pub good : Good t (with_targets es begun) hand new
    pub eases : Eases old new

  pub taken_all : (es : List Edge) (begun : List ℕ) (old new : State) → All (Suits t) es → Good t begun hand old → Takes old es new → TakenAll begun es old new
  taken_all [] begun old new fits g takes = subst (TakenAll begun [] old) (sym takes) (record { good = g; eases = eases_same old })
  taken_all (e ∷ es) begun old new fits g takes =
      let one = stepped t begun hand old g e takes.0 (All-head (Suits t) e es fits) takes.2 in
      let rest = taken_all es (e.target ∷ begun) takes.0 new (All-tail (Suits t) e es fits) one.good takes.3 in
      record { good = rest.good; eases = eases_on old takes.0 new one.eases rest.eases }

  pub can_all : (es : List Edge) (begun : List ℕ) (m : Marker) → All (Suits t) es → Good t begun hand (state_of m)
      → CanTake (λ m e. StartsSome m.pages.now.slots e.target) Leaves m es
  can_all [] begun m fits g = tt
  can_all (e ∷ es) begun m fits g =
      let first = All-head (Suits t) e es fits in (
        starts_now t begun hand (state_of m) g e.target first.starts,
        λ n l. let one = stepped t begun hand (state_of m) g e (state_of n) first l.step in
            can_all es (e.target ∷ begun) n (All-tail (Suits t) e es fits) one.good,
      )

pub took_same : (m n : Marker) (xs ys : List Edge) → xs ≡ ys → Took Leaves m ys n → Took Leaves m xs n
took_same m n xs ys same took = subst (λ es. Took Leaves m es n) (sym same) took

-- ---- one block

abbrev or_zero : Option ℕ → ℕ
or_zero (Some n) = n
or_zero None = 0

module _ {tables : Tables} {space : Range} (t : Task tables space) (begun : List ℕ) (b : Block) (f : Fits t b) where
  -- the place of its chain pointer is told
  pub good_chained : (old : State) (chain : Option ℕ) → Good t begun (Some b.addr) old → Good t begun (Some b.addr) (record old { chain = chain })
  good_chained old chain g = record {
    marks = g.marks;
    pages = g.pages;
    status = g.status;
    closed = g.closed;
    put_off = g.put_off;
    fit = g.fit;
    next = g.next;
    began = g.began;
  }

  pub good_done : (es : List Edge) → ((e : Edge) → Contains (edges_of tables b.walk b.count space b.addr) e → Contains es e) → (st : State) → Good t (with_targets es begun) (Some b.addr) st
      → Good t begun (option_map (λ c. c.addr) st.next) (record st { chain = None; next = None })
  good_done es every st g =
      let same = same_edges t b f in
      record {
        marks = g.marks;
        pages = g.pages;
        status = g.status;
        closed = λ a e off rests own there. elim (cases_eq a b.addr) [
          | inl here ↦ g.began e.target (targets_have es begun e (every e (subst (λ l. Contains l e) (sym same) (subst (λ x. Contains (block_edges tables space t.walks x) e) here there))))
          | inr apart ↦ g.closed a e (λ h. apart (ap or_zero (sym h))) (λ w. elim w [ inl on ↦ rests (inl on) | inr next ↦ off next ]) own there
        ];
        put_off = g.put_off;
        fit = g.fit;
        next = tt;
        began = λ a there. g.began a (targets_keep es begun a there);
      }

-- ---- walking a block

module _ {tables : Tables} {space : Range} (t : Task tables space) (begun : List ℕ) (b : Block) (st : State) (h : Holds t begun (Some b) st) (chain : Option ℕ) (es : List Edge) where
  -- the edges of the block, in any order
  pub goes_taken : All (Suits t) es → ((e : Edge) → Contains (edges_of tables b.walk b.count space b.addr) e → Contains es e) → (new : State) → Takes (record st { chain = chain }) es new
      → Goes t begun new.next st (record new { chain = None; next = None })
  goes_taken fits every new takes =
      let all = taken_all t (Some b.addr) es begun (record st { chain = chain }) new fits (good_chained t begun b h.fits st chain h.good) takes in
      let idle : one_if (is_some st.next) ≡ 0 = ap (λ x. one_if (is_some x)) h.idle in
      let el = all.eases.load in
      let eo = all.eases.lost in
      record {
        holds = record { good = good_done t begun b h.fits es every new all.good; idle = refl; unchained = refl; fits = all.good.next };
        lessens = record { left = omega (arith, idle, el); lost = omega (arith, eo) };
        stands = all.eases.stands;
      }

module _ {tables : Tables} {space : Range} (t : Task tables space) (begun : List ℕ) (b : Block) (m : Marker) (h : Holds t begun (Some b) (state_of m)) where
  -- the marker once it knows where the chain pointer of the block lies
  module _ (n : Marker) (chain : Option ℕ) (is : state_of n ≡ record (state_of m) { chain = chain }) where
    pub good_begun : Good t begun (Some b.addr) (state_of n)
    good_begun = subst (Good t begun (Some b.addr)) (sym is) (good_chained t begun b h.fits (state_of m) chain h.good)

    -- its edges, told otherwise
    pub can_same : (es : List Edge) → edges_of tables b.walk b.count space b.addr ≡ es → CanTake (λ m e. StartsSome m.pages.now.slots e.target) Leaves n es
    can_same es same =
        subst (CanTake (λ m e. StartsSome m.pages.now.slots e.target) Leaves n) same
        (can_all t (Some b.addr) (edges_of tables b.walk b.count space b.addr) begun n (block_fits t b h.fits) good_begun)

    module _ (o : Marker) (took : Took Leaves n (edges_of tables b.walk b.count space b.addr) o) where
      pub takes_block : Takes (record (state_of m) { chain = chain }) (edges_of tables b.walk b.count space b.addr) (state_of o)
      takes_block = subst (λ s. Takes s (edges_of tables b.walk b.count space b.addr) (state_of o)) is (took_states (edges_of tables b.walk b.count space b.addr) n o took)

      pub goes_block : Goes t begun (state_of o).next (state_of m) (record (state_of o) { chain = None; next = None })
      goes_block = goes_taken t begun b (state_of m) h chain (edges_of tables b.walk b.count space b.addr) (block_fits t b h.fits) (λ e there. there) (state_of o) takes_block

      pub same_block : o.pages.ghost_name ≡ n.pages.ghost_name
      same_block = took_reference (edges_of tables b.walk b.count space b.addr) n o took
