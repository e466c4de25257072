-- No promise: why many blocks that one block leads to do not fit on the stack, and few that are named aside do. Only the functions inside
-- the crate cite this.
use Rattle.std.specs.Prelude.{◌≡◌, ◌≢◌, ◌⊎◌, ◌≤◌, ℕ, Bool, true, List, length, map, Option, Some, None, is_some, option_map, nat_eq, IfSome, Contains}
use Rattle.std.specs.List.{IsDistinct}
use Rattle.gt_space.specs.Range.{Range}
use Rattle.gt_pages.specs.Slots.{StartsSome, mark_at}
use Rattle.gt_walk.specs.declared.tables.Tables.{Tables}
use Rattle.gt_walk.specs.Rows.{Edge, word_at}
use Rattle.gt_mark.specs.declared.stack.Block.{Block}
use Rattle.gt_mark.specs.Reached.{LeadsTo, IsReached, block_edges}
use Rattle.gt_mark.specs.Rounds.{IsChainEdge}
use Rattle.gt_mark.specs.Steps.{State, Task, Waits}

module _ {tables : Tables} {space : Range} (t : Task tables space) where
  -- a block that was not marked and is to be
  pub record IsGained (a : ℕ) : Type 0 where
    pub starts : StartsSome t.before.slots a
    pub reached : IsReached tables space t.walks t.starts a
    pub unmarked : mark_at t.before.slots a ≡ None

  -- marking starts there, or an edge other than a chain edge leads there from a gained block
  abbrev pub IsBeside : ℕ → Type 0
  IsBeside a = Contains t.starts a ⊎ ((from : ℕ) × (e : Edge) × IsGained from × Contains (block_edges tables space t.walks from) e × (IsChainEdge tables t.walks from e → ⊥) × (e.target ≡ a))

  -- a block that comes onto the stack
  pub record IsAside (a : ℕ) : Type 0 where
    pub gained : IsGained a
    pub beside : IsBeside a

  -- more blocks come onto the stack than it has room for
  pub record HasTooMany : Type 0 where
    pub blocks : List ℕ
    pub distinct : IsDistinct nat_eq blocks
    pub many : 65 ≤ length blocks
    pub each : (a : ℕ) → Contains blocks a → IsAside a

  -- why a block is marked: marking starts there, or a block whose edges were taken leads there
  abbrev pub Origin : (ℕ → Bool) → ℕ → Type 0
  Origin walked a = Contains t.starts a ⊎ ((src : ℕ) × (walked src ≡ true) × LeadsTo tables space t.walks src a)

module _ {tables : Tables} {space : Range} (t : Task tables space) (st : State) where
  -- of the marked blocks this one alone leads to the other
  pub record IsOnly (from a : ℕ) : Type 0 where
    pub leads : LeadsTo tables space t.walks from a
    pub unmarked : mark_at t.before.slots a ≡ None
    pub no_start : Contains t.starts a → ⊥
    pub no_other : (other : ℕ) → other ≢ from → is_some (mark_at st.pages.slots other) ≡ true → LeadsTo tables space t.walks other a → ⊥

  -- more blocks than the stack and a chain pointer can take
  pub record IsCrowd (from : ℕ) (blocks : List ℕ) : Type 0 where
    pub distinct : IsDistinct nat_eq blocks
    pub many : 66 ≤ length blocks
    pub only : (a : ℕ) → Contains blocks a → IsOnly from a

  -- Each block on the stack is there once and is named aside; the stack had no room only where such blocks are too many; and the next
  -- block is the one that the chain pointer names.
  pub record KeepsAside : Type 0 where
    pub distinct : IsDistinct nat_eq (map (λ b. b.addr) st.stack)
    pub aside : (b : Block) → Contains st.stack b → IsAside t b.addr
    pub over : is_some st.lost ≡ true → HasTooMany t
    pub chained : IfSome st.next (λ b. (place : ℕ) × (st.chain ≡ Some place) × (word_at space place ≡ Some b.addr))

  -- before any pass, by the blocks whose edges were taken, the one whose edges are being taken, and the one that is held for this
  pub record Opened (walked : ℕ → Bool) (opened held : Option ℕ) : Type 0 where
    pub no_pass : st.pass ≡ None
    pub keeps : KeepsAside
    pub short : length st.stack ≤ 64
    pub stacked : (b : Block) → Contains st.stack b → is_some (mark_at st.pages.slots b.addr) ≡ true
    pub followed : IfSome st.next (λ b. is_some (mark_at st.pages.slots b.addr) ≡ true)
    pub marked : (a : ℕ) → walked a ≡ true → is_some (mark_at st.pages.slots a) ≡ true
    pub origin : (a : ℕ) → is_some (mark_at st.pages.slots a) ≡ true → (is_some (mark_at t.before.slots a) ≡ true) ⊎ Origin t walked a
    pub seen : (a : ℕ) → mark_at t.before.slots a ≡ None → is_some (mark_at st.pages.slots a) ≡ true → (walked a ≡ true) ⊎ (held ≡ Some a) ⊎ Waits st a ⊎ (is_some st.lost ≡ true)
    pub wide : (from : ℕ) (blocks : List ℕ) → opened ≢ Some from → IsCrowd from blocks → walked from ≡ true → is_some st.lost ≡ true

  -- with a block in hand
  pub record Wide (hand : Option Block) : Type 0 where
    pub walked : ℕ → Bool
    pub opened : Opened walked None (option_map (λ b. b.addr) hand)
    pub handed : IfSome hand (λ b. is_some (mark_at st.pages.slots b.addr) ≡ true)
