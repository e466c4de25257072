-- No promise: what the marker is while it works. Only the functions inside the crate cite this.
use Rattle.std.specs.Prelude.{◌≡◌, ◌≢◌, ◌⊎◌, ◌≤◌, ◌<◌, ◌+◌, ◌-◌, ◌*◌, ◌^◌, ℕ, suc, Bool, true, false, cond, min, max, nat_lt, List, [], ◌∷◌, ◌++◌, length, map, count_by, Option, Some, None, option_map, is_some, IsTrue, IfSome, Contains, All}
use Rattle.gt_space.specs.Range.{Range}
use Rattle.gt_entries.specs.declared.marks.Mark.{Mark}
use Rattle.gt_entries.specs.Cells.{has_pending}
use Rattle.gt_pages.specs.Slots.{Slot, StartsSome, is_unmarked, mark_at, new_mark, postponed, walked, with_mark, with_mark_at}
use Rattle.gt_pages.specs.Contents.{Contents, Rises, with_slots}
use Rattle.gt_walk.specs.declared.tables.Tables.{Tables}
use Rattle.gt_walk.specs.Rows.{Edge, edge, word_at}
use Rattle.gt_mark.specs.declared.spans.Pass.{Pass}
use Rattle.gt_mark.specs.declared.spans.Span.{Span}
use Rattle.gt_mark.specs.declared.stack.Block.{Block}
use Rattle.gt_mark.specs.declared.stack.TheConstants.{MOST_BLOCKS}
use Rattle.gt_mark.specs.declared.marker.Marker.{Marker}
use Rattle.gt_mark.specs.Reached.{Walks, CanMark, IsReached, block_edges}
use Rattle.gt_mark.specs.Marks.{own_mark}

-- ---- spans and passes

-- the least span that has an address, and those of another
abbrev pub span_with : Option Span → ℕ → Span
span_with None address = record { first = address; last = address }
span_with (Some s) address = record { first = min s.first address; last = max s.last address }

-- a pass that has come to no address of the span
abbrev pub pass_over : Span → Pass
pass_over s = record { at = s.first - 1; last = s.last }

-- the address lies in the span
abbrev pub IsLeft : Option Span → ℕ → Type 0
IsLeft None address = ⊥
IsLeft (Some s) address = (s.first ≤ address) × (address ≤ s.last)

-- the pass has still to come to the address
abbrev pub IsAhead : Option Pass → ℕ → Type 0
IsAhead None address = ⊥
IsAhead (Some p) address = (p.at < address) × (address ≤ p.last)

-- ---- the marker

-- what the marker holds
pub record State : Type 0 where
  pub pages : Contents
  pub stack : List Block
  pub lost : Option Span
  pub pass : Option Pass
  pub chain : Option ℕ
  pub next : Option Block

abbrev pub state_of : Marker → State
state_of m = record { pages = m.pages.now; stack = m.stack.items; lost = m.lost; pass = m.pass; chain = m.chain; next = m.next }

-- a marker that has taken no edge
abbrev pub start_state : Contents → State
start_state pages = record { pages = pages; stack = []; lost = None; pass = None; chain = None; next = None }

-- where the pass stands that runs
abbrev pub place_of : State → Option ℕ
place_of st = option_map (λ p. p.at) st.pass

-- a block at this address is left to the pass that runs, where that has not come to it, else to the next one
abbrev pub lost_in : Option Pass → State → ℕ → State
lost_in None st address = record st { lost = Some (span_with st.lost address) }
lost_in (Some p) st address = cond (nat_lt p.at address) (record st { pass = Some (record { at = p.at; last = max p.last address }) }) (record st { lost = Some (span_with st.lost address) })

-- a pass begins over what is left to it
abbrev pub begun_state : State → State
begun_state st = record st { lost = None; pass = option_map pass_over st.lost }

-- how much of the pass is ahead
abbrev pub ahead_in : Option ℕ → List Slot → ℕ
ahead_in None slots = 0
ahead_in (Some at) slots = suc (count_by (λ s. nat_lt at s.address) slots)

abbrev pub ahead : State → ℕ
ahead st = ahead_in (place_of st) st.pages.slots

-- ---- one edge

-- the block that an edge names
abbrev pub block_in : Edge → Block
block_in e = record { addr = e.target; walk = e.walk; count = e.count }

-- the pages with the target marked
abbrev pub marked_pages : Contents → Edge → Contents
marked_pages pages e = with_slots pages (with_mark_at pages.slots e.target (Some (new_mark e.walk e.count)))

-- the pages with the block at this address left to a pass
abbrev pub postponed_pages : Contents → ℕ → Contents
postponed_pages pages address = with_slots pages (with_mark_at pages.slots address (postponed (mark_at pages.slots address)))

-- the block is the next of the chain
pub record IsNext (old : State) (e : Edge) (new : State) : Type 0 where
  pub free : old.next ≡ None
  pub place : old.chain ≡ Some e.place
  pub result : new ≡ record old { pages = marked_pages old.pages e; next = Some (block_in e) }

-- the block is on the stack, since the chain pointer does not lie there, or named another block already
pub record IsPushed (old : State) (e : Edge) (new : State) : Type 0 where
  pub aside : old.next ≡ None → old.chain ≢ Some e.place
  pub room : length old.stack < MOST_BLOCKS
  pub result : new ≡ record old { pages = marked_pages old.pages e; stack = old.stack ++ block_in e ∷ [] }

-- the stack, onto which it would have to come for the same reason, has no room for it, and it is left to a pass
pub record IsLost (old : State) (e : Edge) (new : State) : Type 0 where
  pub aside : old.next ≡ None → old.chain ≢ Some e.place
  pub full : length old.stack ≡ MOST_BLOCKS
  pub result : new ≡ lost_in old.pass (record old { pages = postponed_pages (marked_pages old.pages e) e.target }) e.target

-- a target that is marked changes nothing; another is marked and kept
pub data TakesEdge (old : State) (e : Edge) (new : State) : Type 0 where
  known : mark_at old.pages.slots e.target ≢ None → new ≡ old → TakesEdge old e new
  next : mark_at old.pages.slots e.target ≡ None → IsNext old e new → TakesEdge old e new
  pushed : mark_at old.pages.slots e.target ≡ None → IsPushed old e new → TakesEdge old e new
  lost : mark_at old.pages.slots e.target ≡ None → IsLost old e new → TakesEdge old e new

-- what an edge leaves of the marker; its place is an address
pub record Leaves (old : Marker) (e : Edge) (new : Marker) : Type 0 where
  pub small : e.place < 2 ^ 64
  pub same_reference : new.pages.ghost_name ≡ old.pages.ghost_name
  pub step : TakesEdge (state_of old) e (state_of new)

-- edges are taken one after another
abbrev pub Takes : State → List Edge → State → Type 0
Takes old [] new = new ≡ old
Takes old (e ∷ es) new = (next : State) × (e.place < 2 ^ 64) × TakesEdge old e next × Takes next es new

-- the block at an address of one element of a walk
abbrev pub one_of : (walk address : ℕ) → Block
one_of walk address = record { addr = address; walk = walk; count = 1 }

-- What the chain pointer at an address gives, to one element of a walk: where it names a block that was not marked, this is marked and is the
-- next. It does not come onto the stack.
pub data Follows (space : Range) (place walk : ℕ) (old : State) (next : Option ℕ) (new : State) : Type 0 where
  outside : word_at space place ≡ None → next ≡ None → new ≡ old → Follows space place walk old next new
  null : word_at space place ≡ Some 0 → next ≡ None → new ≡ old → Follows space place walk old next new
  known : (target : ℕ) → word_at space place ≡ Some target → 0 < target → mark_at old.pages.slots target ≢ None → next ≡ None → new ≡ old → Follows space place walk old next new
  fresh : (target : ℕ) → word_at space place ≡ Some target → 0 < target → mark_at old.pages.slots target ≡ None → next ≡ Some target
      → new ≡ record old { pages = marked_pages old.pages (edge place target walk 1) } → Follows space place walk old next new

-- ---- the whole work

-- what is to be marked: from where, and in which pages
pub record Task (tables : Tables) (space : Range) : Type 0 where
  pub walks : Walks
  pub starts : List ℕ
  pub before : Contents
  pub can : CanMark tables space walks before.slots starts
  pub rises : Rises before.slots
  pub positive : (s : Slot) → Contains before.slots s → 0 < s.address

-- the block with the mark of its address
abbrev pub remarked : (ℕ → Option Mark) → Slot → Slot
remarked marks s = with_mark (marks s.address) s

module _ {tables : Tables} {space : Range} (t : Task tables space) where
  -- the mark is as it was, or walked since
  abbrev pub IsOld : ℕ → Option Mark → Type 0
  IsOld address mark = (mark ≡ mark_at t.before.slots address) ⊎ (mark ≡ walked (mark_at t.before.slots address))

  -- a block that was not marked is reached, and has its own walk and count
  pub record IsNew (address : ℕ) (mark : Option Mark) : Type 0 where
    pub unmarked : mark_at t.before.slots address ≡ None
    pub reached : IsReached tables space t.walks t.starts address
    pub pending : Bool
    pub is : mark ≡ Some (record { walk = (t.walks address).walk; count = (t.walks address).count; pending = pending })

  -- a block that was marked, or is reached, with its own walk and count
  pub record Fits (b : Block) : Type 0 where
    pub starts : StartsSome t.before.slots b.addr
    pub met : IsTrue (is_some (mark_at t.before.slots b.addr)) ⊎ IsReached tables space t.walks t.starts b.addr
    pub walk : b.walk ≡ (t.walks b.addr).walk
    pub count : b.count ≡ (t.walks b.addr).count

  -- an edge names the start of a block that was marked, or that fits
  pub record Suits (e : Edge) : Type 0 where
    pub starts : StartsSome t.before.slots e.target
    pub fits : mark_at t.before.slots e.target ≡ None → Fits (block_in e)

-- a block waits that is on the stack, or is the next of a chain
abbrev pub Waits : State → ℕ → Type 0
Waits st address = ((b : Block) × Contains st.stack b × (b.addr ≡ address)) ⊎ (option_map (λ b. b.addr) st.next ≡ Some address)

-- a block is left to the pass that runs, or to the next one
abbrev pub IsPutOff : State → ℕ → Type 0
IsPutOff st address = IsLeft st.lost address ⊎ IsAhead st.pass address

-- What holds while the marker works: targets that were taken are marked; a newly marked block whose mark says so is left to a pass; and
-- what another leads to is marked, unless it is in hand, or waits.
pub record Good {tables : Tables} {space : Range} (t : Task tables space) (begun : List ℕ) (hand : Option ℕ) (st : State) : Type 0 where
  pub marks : ℕ → Option Mark
  pub pages : st.pages ≡ with_slots t.before (map (remarked marks) t.before.slots)
  pub status : (a : ℕ) → IsOld t a (marks a) ⊎ IsNew t a (marks a)
  pub closed : (a : ℕ) (e : Edge) → hand ≢ Some a → ¬ Waits st a → marks a ≡ Some (own_mark t.walks a) → Contains (block_edges tables space t.walks a) e → IsTrue (is_some (marks e.target))
  pub put_off : (a : ℕ) → StartsSome t.before.slots a → mark_at t.before.slots a ≡ None → has_pending (marks a) ≡ true → IsPutOff st a
  pub fit : All (Fits t) st.stack
  pub next : IfSome st.next (Fits t)
  pub began : (a : ℕ) → Contains begun a → IsTrue (is_some (marks a))

-- the marker has this block in hand, and no next one
pub record Holds {tables : Tables} {space : Range} (t : Task tables space) (begun : List ℕ) (hand : Option Block) (st : State) : Type 0 where
  pub good : Good t begun (option_map (λ b. b.addr) hand) st
  pub idle : st.next ≡ None
  pub unchained : st.chain ≡ None
  pub fits : IfSome hand (Fits t)

-- how much is left to do: two for each unmarked block, and one for each on the stack
abbrev pub left : State → ℕ
left st = 2 * count_by is_unmarked st.pages.slots + length st.stack

abbrev pub one_if : Bool → ℕ
one_if true = 1
one_if false = 0

-- how many passes there can be: one for each unmarked block, and one for what is lost
abbrev pub passes : State → ℕ
passes st = count_by is_unmarked st.pages.slots + one_if (is_some st.lost)

-- nothing is marked but what lessens the work, and what is lost is newly marked
pub record Lessens (old new : State) (more : ℕ) : Type 0 where
  pub left : left new + more ≤ left old
  pub lost : passes new ≤ passes old

-- the marker went on from one block in hand to another, and the pass stands where it stood
pub record Goes {tables : Tables} {space : Range} (t : Task tables space) (begun : List ℕ) (hand : Option Block) (old new : State) : Type 0 where
  pub holds : Holds t begun hand new
  pub lessens : Lessens old new (one_if (is_some hand))
  pub stands : place_of new ≡ place_of old

-- the marker went on to the end of a pass
pub record PassesOver {tables : Tables} {space : Range} (t : Task tables space) (begun : List ℕ) (old new : State) : Type 0 where
  pub holds : Holds t begun None new
  pub lessens : Lessens old new 0

-- the marker is done after so many rounds
pub record Ends {tables : Tables} {space : Range} (t : Task tables space) (begun : List ℕ) (rounds : ℕ) (old new : State) : Type 0 where
  pub holds : Holds t begun None new
  pub rounds_are : rounds + passes new ≤ 1 + passes old

-- the targets of edges, and others
abbrev pub with_targets : List Edge → List ℕ → List ℕ
with_targets [] begun = begun
with_targets (e ∷ es) begun = with_targets es (e.target ∷ begun)
