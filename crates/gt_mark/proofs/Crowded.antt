-- More blocks than the stack takes, and no more than it takes, from the beginning to the end.
use Rattle.std.proofs.Common.{◌≡◌, ℕ, ◌≤◌, ◌⊎◌, Bool, true, false, List, [], ◌∷◌, length, Option, Some, None, is_some, refl, sym, ap, subst, ◌∙◌, inl, inr, arith}
use Rattle.std.specs.Prelude.{All, Contains}
use Rattle.std.proofs.lemmas.Bool.{cases_Bool, eq-eqb, eqb-true, false≢true, true≢false}
use Rattle.std.proofs.lemmas.List.Elements.{All-cons, All-nil, All-contains}
use Rattle.std.proofs.lemmas.Cmp.{nat_eq_equiv}
use Rattle.std.proofs.lemmas.Map.Made.{is_member-Decides, length-le_from_is_member}
use Rattle.gt_space.specs.Range.{Range}
use Rattle.gt_pages.specs.Slots.{Slot, mark_at}
use Rattle.gt_walk.specs.declared.tables.Tables.{Tables}
use Rattle.gt_walk.specs.Rows.{Edge}
use Rattle.gt_walk.specs.Sinks.{Took}
use Rattle.gt_mark.specs.declared.marker.Marker.{Marker}
use Rattle.gt_mark.specs.declared.spans.Span.{Span}
use Rattle.gt_mark.specs.Reached.{IsMarkedAt}
use Rattle.gt_mark.specs.Rounds.{IsNamedAside, IsNewlyMarked, IsOnlyFrom}
use Rattle.gt_mark.specs.Steps.{State, Task, Holds, Leaves, Suits, place_of, start_state, state_of}
use Rattle.gt_mark.specs.Wide.{HasTooMany, IsAside, IsGained, Wide}
use Rattle.gt_mark.proofs.Remarked.{contains_cases, contains_map_from, contains_none, marked_slot}
use Rattle.gt_mark.proofs.Going.{is_at, marked_before, none_from}
use Rattle.gt_mark.proofs.Apart.{distinct_none, sides_start}
use Rattle.gt_mark.proofs.Blocks.{took_states}
use Rattle.gt_mark.proofs.Widening.{widen_all}
use Rattle.gt_mark.proofs.Final.{HasMoreRounds, HasOneRound, none_waits, reached_now, start_holds}

not_some : (b : Bool) → (b ≡ true → ⊥) → b ≡ false
not_some true h = absurd (h refl)
not_some false h = refl

no_span : (o : Option Span) → is_some o ≡ false → o ≡ None
no_span None h = refl
no_span (Some s) h = absurd (true≢false h)

module _ {tables : Tables} {space : Range} (t : Task tables space) where
  pub start_wide : Wide t (start_state t.before) None
  start_wide = record {
    walked = λ _. false;
    opened = record {
      no_pass = refl;
      keeps = record { distinct = distinct_none; aside = λ b there. contains_none b there; over = λ h. absurd (false≢true h); chained = tt };
      short = omega arith;
      stacked = λ b there. contains_none b there;
      followed = tt;
      marked = λ a done. absurd (false≢true done);
      origin = λ a some. inl some;
      seen = λ a free some. absurd (false≢true (sym (ap is_some free) ∙ some));
      wide = λ from blocks off crowd done. absurd (false≢true done);
    };
    handed = tt;
  }

  pub root_wide : (begun : List ℕ) (es : List Edge) (m n : Marker) → Holds t begun None (state_of m) → All (Suits t) es → ((e : Edge) → Contains es e → Contains t.starts e.target) → Wide t (state_of m) None → Took Leaves m es n → Wide t (state_of n) None
  root_wide begun es m n h fits starts w took = record {
    walked = w.walked;
    opened = (widen_all t w.walked None None None es begun (state_of m) (state_of n) fits h.good w.opened (λ e there. inl (starts e there)) (λ e there. sides_start t (state_of m).chain e h.unchained (starts e there)) (took_states es m n took)).now;
    handed = tt;
  }

  pub first_wide : (m n : Marker) (e : Edge) → state_of m ≡ start_state t.before → Suits t e → Contains t.starts e.target → Leaves m e n → Wide t (state_of n) None
  first_wide m n e is fits start leaves =
      root_wide [] (e ∷ []) m n (subst (Holds t [] None) (sym is) (start_holds t)) (All-cons (Suits t) e [] fits (All-nil (Suits t)))
      (λ x there. elim (contains_cases e x [] there) [ inl same ↦ subst (λ y. Contains t.starts y.target) same start | inr no-one ↦ contains_none x no-one ])
      (subst (λ s. Wide t s None) (sym is) start_wide) (n, leaves, refl)

  pub more_final : (begun : List ℕ) (mid st : State) (rounds : ℕ) (slots : List Slot) → Holds t begun None st → st.stack ≡ [] → st.lost ≡ None → place_of st ≡ None → ((a : ℕ) → Contains t.starts a → Contains begun a) → Wide t mid None → (st ≡ mid) ⊎ (2 ≤ rounds) → st.pages.slots ≡ slots → HasMoreRounds t slots rounds
  more_final begun mid st rounds slots h empty room idle all w again same = λ from blocks newly distinct many only. elim again [
    | inr twice ↦ twice
    | inl is ↦
        let wide = subst (λ s. Wide t s None) (sym is) w in
        let at : IsMarkedAt st.pages.slots from = subst (λ l. IsMarkedAt l from) (sym same) newly.now in
        let s0 = contains_map_from _ t.before.slots at.0 (subst (λ p. Contains p.slots at.0) h.good.pages at.1) in
        let start : (s : Slot) × Contains t.before.slots s × (s.address ≡ from) = (s0.0, s0.1, ap (λ s. s.address) s0.2 ∙ at.2) in
        let some : is_some (mark_at st.pages.slots from) ≡ true =
        ap is_some (is_at t begun None st h.good from start) ∙ ap (λ a. is_some (h.good.marks a)) (sym start.2) ∙ ap (λ s. is_some s.mark) s0.2 ∙ at.3 in
        let free = none_from (mark_at t.before.slots from) (not_some (is_some (mark_at t.before.slots from)) (λ was. newly.not_before (marked_slot t.before.slots from was))) in
        let done : wide.walked from ≡ true = elim (wide.opened.seen from free some) [
          | inl done ↦ done
          | inr rest ↦ elim rest [
            | inl no-one ↦ absurd (false≢true (ap is_some no-one))
            | inr later ↦ elim later [
              | inl waits ↦ absurd (none_waits t begun st h empty room idle all from waits)
              | inr over ↦ absurd (false≢true (sym (ap is_some room) ∙ over))
            ]
          ]
        ] in
        absurd (false≢true (sym (ap is_some room) ∙ wide.opened.wide from blocks (λ no-one. false≢true (ap is_some no-one)) (record {
          distinct = distinct;
          many = many;
          only = λ a there. let o = All-contains (IsOnlyFrom tables space t.walks t.starts t.before.slots slots from) blocks a only there in record {
            leads = o.leads;
            unmarked = none_from (mark_at t.before.slots a) (not_some (is_some (mark_at t.before.slots a)) (λ was. o.unmarked (marked_slot t.before.slots a was)));
            no_start = o.no_start;
            no_other = λ other apart marked. o.no_other other apart (subst (λ l. IsMarkedAt l other) same (marked_slot st.pages.slots other marked));
          };
        }) done))
  ]

  -- ---- one round alone

  module _ (begun : List ℕ) (st : State) (h : Holds t begun None st) (empty : st.stack ≡ []) (room : st.lost ≡ None) (idle : place_of st ≡ None) (all : (a : ℕ) → Contains t.starts a → Contains begun a) (slots : List Slot) (same : st.pages.slots ≡ slots) where
    newly_now : (a : ℕ) → IsGained t a → IsNewlyMarked t.before.slots slots a
    newly_now a gained = record {
      now = subst (λ l. IsMarkedAt l a) same (marked_slot st.pages.slots a (ap is_some (is_at t begun None st h.good a gained.starts) ∙ reached_now t begun st h empty room idle all a gained.reached));
      not_before = λ at. false≢true (sym (ap is_some gained.unmarked) ∙ marked_before t a at);
    }

    aside_named : (a : ℕ) → IsAside t a → IsNamedAside tables space t.walks t.starts t.before.slots slots a
    aside_named a aside = elim aside.beside [
      | inl start ↦ inl start
      | inr led ↦ inr (led.0, led.1, newly_now led.0 led.2, led.3, led.4, led.5)
    ]

    few_fit : (blocks : List ℕ) → length blocks ≤ 64 → ((a : ℕ) → IsNewlyMarked t.before.slots slots a → IsNamedAside tables space t.walks t.starts t.before.slots slots a → Contains blocks a) → HasTooMany t → ⊥
    few_fit blocks few each more =
        let fits = length-le_from_is_member nat_eq_equiv more.blocks blocks more.distinct (λ a member.
        let aside = more.each a ((is_member-Decides (λ x y. (eqb-true x y, eq-eqb x y)) more.blocks a).0 member) in
        (is_member-Decides (λ x y. (eqb-true x y, eq-eqb x y)) blocks a).1 (each a (newly_now a aside.gained) (aside_named a aside))) in
        let many = more.many in
        let no : 1 ≤ 0 = omega (arith, few, fits, many) in
        omega (arith, no)

    pub one_final : (mid : State) (rounds : ℕ) → Wide t mid None → (mid.lost ≡ None → rounds ≡ 1) → HasOneRound t slots rounds
    one_final mid rounds w one = λ blocks few each. elim (cases_Bool (is_some mid.lost)) [
      | inl over ↦ absurd (few_fit blocks few each (w.opened.keeps.over over))
      | inr fits ↦ one (no_span mid.lost fits)
    ]
