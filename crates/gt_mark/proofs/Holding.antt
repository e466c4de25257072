-- What the rows beside a chain pointer do, while the block that it names is held.
use Rattle.std.proofs.Common.{◌≡◌, ◌≢◌, ℕ, zero, suc, ◌^◌, ◌<◌, Bool, true, false, cond, List, [], ◌∷◌, Option, Some, None, is_some, refl, sym, ap, subst, ◌∙◌, arith}
use Rattle.std.specs.Prelude.{All, Contains, nat_lt, option_map}
use Rattle.std.proofs.lemmas.Bool.{false≢true}
use Rattle.std.proofs.lemmas.List.Elements.{All-head, All-tail}
use Rattle.gt_space.specs.Range.{Range}
use Rattle.gt_pages.specs.Slots.{StartsSome, mark_at}
use Rattle.gt_walk.specs.declared.tables.Tables.{Tables}
use Rattle.gt_walk.specs.Rows.{Edge, edge, word_at}
use Rattle.gt_walk.specs.Sinks.{CanTake, Took}
use Rattle.gt_walk.specs.Visiting.{fixed_edges}
use Rattle.gt_mark.specs.declared.spans.Pass.{Pass}
use Rattle.gt_mark.specs.declared.stack.Block.{Block}
use Rattle.gt_mark.specs.declared.marker.Marker.{Marker}
use Rattle.gt_mark.specs.Steps.{State, Task, Good, Follows, Leaves, Suits, Takes, TakesEdge, known, next, pushed, lost, outside, null, fresh, lost_in, marked_pages, one_of, postponed_pages, state_of, with_targets}
use Rattle.gt_mark.proofs.Remarked.{contains_head, contains_tail}
use Rattle.gt_mark.proofs.Going.{is_at, starts_now, stepped}
use Rattle.gt_mark.proofs.Losing.{loses}
use Rattle.gt_mark.proofs.Apart.{number_in}
use Rattle.gt_mark.proofs.Blocks.{targets_have}

not_less : 0 < 0 → ⊥
not_less h = omega (arith, h)

-- as if the marker held the block that the chain pointer at an address names
abbrev pub held : ℕ → Option Block → State → State
held place block st = record st { chain = Some place; next = block }

-- the marker has no chain pointer and no next block
pub record IsBare (st : State) : Type 0 where
  pub chain : st.chain ≡ None
  pub next : st.next ≡ None

held_cond : (place : ℕ) (block : Option Block) (b : Bool) (x y : State) → held place block (cond b x y) ≡ cond b (held place block x) (held place block y)
held_cond place block true x y = refl
held_cond place block false x y = refl

held_lost : (place : ℕ) (block : Option Block) (pass : Option Pass) (st : State) (address : ℕ) → held place block (lost_in pass st address) ≡ lost_in pass (held place block st) address
held_lost place block None st address = refl
held_lost place block (Some p) st address = held_cond place block (nat_lt p.at address) _ _

bare_step : (old new : State) (e : Edge) → IsBare old → TakesEdge old e new → IsBare new
bare_step old new e bare (known some same) = subst IsBare (sym same) bare
bare_step old new e bare (next none is) = absurd (false≢true (ap is_some (sym bare.chain ∙ is.place)))
bare_step old new e bare (pushed none is) = subst IsBare (sym is.result) (record { chain = bare.chain; next = bare.next })
bare_step old new e bare (lost none is) =
    let same = is.result ∙ (loses (record old { pages = postponed_pages (marked_pages old.pages e) e.target }) e.target).rest in
    record { chain = ap (λ s. s.chain) same ∙ bare.chain; next = ap (λ s. s.next) same ∙ bare.next }

held_step : (place : ℕ) (block : Option Block) (old new : State) (e : Edge) → IsBare old → (mark_at old.pages.slots e.target ≡ None → place ≢ e.place) → TakesEdge old e new
    → TakesEdge (held place block old) e (held place block new)
held_step place block old new e bare off (known some same) = known some (ap (held place block) same)
held_step place block old new e bare off (next none is) = absurd (false≢true (ap is_some (sym bare.chain ∙ is.place)))
held_step place block old new e bare off (pushed none is) =
    pushed none (record { aside = λ _ at. off none (ap number_in at); room = is.room; result = ap (held place block) is.result })
held_step place block old new e bare off (lost none is) =
    lost none (record {
      aside = λ _ at. off none (ap number_in at);
      full = is.full;
      result = ap (held place block) is.result ∙ held_lost place block old.pass (record old { pages = postponed_pages (marked_pages old.pages e) e.target }) e.target;
    })

module _ {tables : Tables} {space : Range} (t : Task tables space) (hand : Option ℕ) (place : ℕ) (block : Option Block) where
  pub record TookHeld (es : List Edge) (m n : Marker) : Type 0 where
    pub takes : Takes (held place block (state_of m)) es (held place block (state_of n))
    pub bare : IsBare (state_of n)

  module _ (begun : List ℕ) (m : Marker) (g : Good t begun hand (held place block (state_of m))) (e : Edge) (s : Suits t e) (named : place ≡ e.place → Contains begun e.target) where
    -- an edge that lies at the chain pointer names a block that is marked
    off_chain : mark_at (state_of m).pages.slots e.target ≡ None → place ≢ e.place
    off_chain none at =
        let free : g.marks e.target ≡ None = sym (is_at t begun hand (held place block (state_of m)) g e.target s.starts) ∙ none in
        false≢true (sym (ap is_some free) ∙ g.began e.target (named at))

  pub took_held : (es : List Edge) (begun : List ℕ) (m n : Marker) → All (Suits t) es → Good t begun hand (held place block (state_of m)) → IsBare (state_of m)
      → ((e : Edge) → Contains es e → place ≡ e.place → Contains begun e.target) → Took Leaves m es n → TookHeld es m n
  took_held [] begun m n fits g bare named took = record {
    takes = ap (λ x. held place block (state_of x)) took;
    bare = subst (λ x. IsBare (state_of x)) (sym took) bare;
  }
  took_held (e ∷ es) begun m n fits g bare named took =
      let first = All-head (Suits t) e es fits in
      let step = held_step place block (state_of m) (state_of took.0) e bare (off_chain begun m g e first (named e (contains_head e es))) took.1.step in
      let one = stepped t begun hand (held place block (state_of m)) g e (held place block (state_of took.0)) first step in
      let rest = took_held es (e.target ∷ begun) took.0 n (All-tail (Suits t) e es fits) one.good (bare_step (state_of m) (state_of took.0) e bare took.1.step)
      (λ x there at. contains_tail e.target x.target begun (named x (contains_tail e x es there) at)) took.2 in
      record { takes = (held place block (state_of took.0), took.1.small, step, rest.takes); bare = rest.bare }

  pub can_held : (es : List Edge) (begun : List ℕ) (m : Marker) → All (Suits t) es → Good t begun hand (held place block (state_of m)) → IsBare (state_of m)
      → ((e : Edge) → Contains es e → place ≡ e.place → Contains begun e.target) → CanTake (λ m e. StartsSome m.pages.now.slots e.target) Leaves m es
  can_held [] begun m fits g bare named = tt
  can_held (e ∷ es) begun m fits g bare named =
      let first = All-head (Suits t) e es fits in (
        starts_now t begun hand (held place block (state_of m)) g e.target first.starts,
        λ n l.
            let step = held_step place block (state_of m) (state_of n) e bare (off_chain begun m g e first (named e (contains_head e es))) l.step in
            let one = stepped t begun hand (held place block (state_of m)) g e (held place block (state_of n)) first step in
            can_held es (e.target ∷ begun) n (All-tail (Suits t) e es fits) one.good (bare_step (state_of m) (state_of n) e bare l.step)
            (λ x there at. contains_tail e.target x.target begun (named x (contains_tail e x es there) at)),
      )

-- ---- the chain pointer

-- what it gives is what the edge that lies there does, where there is one
pub follows_takes : (space : Range) (place walk : ℕ) (old : State) (found : Option ℕ) (new : State) → place < 2 ^ 64 → Follows space place walk old found new
    → Takes (held place None old) (fixed_edges place walk 1 (word_at space place)) (held place (option_map (one_of walk) found) new)
follows_takes space place walk old found new small (outside word idle same) =
    subst (λ o. Takes (held place None old) (fixed_edges place walk 1 o) (held place (option_map (one_of walk) found) new)) (sym word)
    (ap (λ x. held place (option_map (one_of walk) x) new) idle ∙ ap (held place None) same)
follows_takes space place walk old found new small (null word idle same) =
    subst (λ o. Takes (held place None old) (fixed_edges place walk 1 o) (held place (option_map (one_of walk) found) new)) (sym word)
    (ap (λ x. held place (option_map (one_of walk) x) new) idle ∙ ap (held place None) same)
follows_takes space place walk old found new small (known zero word some-target some idle same) = absurd (not_less some-target)
follows_takes space place walk old found new small (known (suc k) word some-target some idle same) =
    subst (λ o. Takes (held place None old) (fixed_edges place walk 1 o) (held place (option_map (one_of walk) found) new)) (sym word)
    (held place None old, small, known some refl, ap (λ x. held place (option_map (one_of walk) x) new) idle ∙ ap (held place None) same)
follows_takes space place walk old found new small (fresh zero word some-target none is same) = absurd (not_less some-target)
follows_takes space place walk old found new small (fresh (suc k) word some-target none is same) =
    subst (λ o. Takes (held place None old) (fixed_edges place walk 1 o) (held place (option_map (one_of walk) found) new)) (sym word) (
      held place (Some (one_of walk (suc k))) (record old { pages = marked_pages old.pages (edge place (suc k) walk 1) }),
      small,
      next none (record { free = refl; place = refl; result = refl }),
      ap (λ x. held place (option_map (one_of walk) x) new) is ∙ ap (held place (Some (one_of walk (suc k)))) same,
    )

pub follows_bare : (space : Range) (place walk : ℕ) (old : State) (found : Option ℕ) (new : State) → IsBare old → Follows space place walk old found new → IsBare new
follows_bare space place walk old found new bare (outside word idle same) = subst IsBare (sym same) bare
follows_bare space place walk old found new bare (null word idle same) = subst IsBare (sym same) bare
follows_bare space place walk old found new bare (known target word some-target some idle same) = subst IsBare (sym same) bare
follows_bare space place walk old found new bare (fresh target word some-target none is same) = subst IsBare (sym same) (record { chain = bare.chain; next = bare.next })

-- the edge that lies there
pub fixed_has : (place walk target : ℕ) (o : Option ℕ) → o ≡ Some target → 0 < target → Contains (fixed_edges place walk 1 o) (edge place target walk 1)
fixed_has place walk zero o is some = absurd (not_less some)
fixed_has place walk (suc k) o is some = subst (λ x. Contains (fixed_edges place walk 1 x) (edge place (suc k) walk 1)) (sym is) (contains_head (edge place (suc k) walk 1) [])

-- the block that it names is begun
pub fixed_begun : (place walk target : ℕ) (o : Option ℕ) (begun : List ℕ) → o ≡ Some target → 0 < target → Contains (with_targets (fixed_edges place walk 1 o) begun) target
fixed_begun place walk target o begun is some = targets_have (fixed_edges place walk 1 o) begun (edge place target walk 1) (fixed_has place walk target o is some)
