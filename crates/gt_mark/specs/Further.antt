-- Marking from some blocks, and then from others.
use Rattle.std.specs.Prelude.{ℕ, ◌+◌, ◌-◌, List, ◌++◌}
use Rattle.gt_space.specs.Range.{Range}
use Rattle.gt_pages.specs.Contents.{Contents}
use Rattle.gt_walk.specs.declared.tables.Tables.{Tables}
use Rattle.gt_walk.specs.Rows.{Edge}
use Rattle.gt_mark.specs.Reached.{Walks, CanMark, NamesBlock}
use Rattle.gt_mark.specs.Marks.{Marks}
use Rattle.gt_mark.specs.Rounds.{AreRounds}

-- where blocks can be marked from some blocks and from others, they can be marked from the others after the first
abbrev pub CanGoOn : Type 0
CanGoOn =
    (tables : Tables) (space : Range) (walks : Walks) (starts more : List ℕ) (old new : Contents)
    → CanMark tables space walks old.slots starts → CanMark tables space walks old.slots more → Marks tables space walks starts old new
    → CanMark tables space walks new.slots more

-- an edge that names a block does so after marking
abbrev pub NamesStay : Type 0
NamesStay =
    (tables : Tables) (space : Range) (walks : Walks) (starts : List ℕ) (old new : Contents) (e : Edge)
    → Marks tables space walks starts old new → NamesBlock old.slots walks e → NamesBlock new.slots walks e

-- marking from some blocks and then from others is marking from both
abbrev pub MarksBoth : Type 0
MarksBoth =
    (tables : Tables) (space : Range) (walks : Walks) (starts more : List ℕ) (old between new : Contents)
    → Marks tables space walks starts old between → Marks tables space walks more between new
    → Marks tables space walks (starts ++ more) old new

-- rounds of one call and of a call after it, counted together: the later call's first round is no new pass
abbrev pub RoundsBoth : Type 0
RoundsBoth =
    (tables : Tables) (space : Range) (walks : Walks) (starts more : List ℕ) (old between new : Contents) (first second : ℕ)
    → CanMark tables space walks old.slots starts → Marks tables space walks starts old between → Marks tables space walks more between new
    → AreRounds tables space walks starts old.slots between.slots first → AreRounds tables space walks more between.slots new.slots second
    → AreRounds tables space walks (starts ++ more) old.slots new.slots (first + second - 1)
