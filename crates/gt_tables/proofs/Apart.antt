-- Walks of parts have other rows than one another, and rows name them.
use Rattle.std.proofs.Common.{◌≡◌, ◌∙◌, ℕ, ◌+◌, ◌-◌, ◌<◌, List, [], ◌∷◌, ◌++◌, length, ap, sym, subst, Option, Some, None, ◌⊎◌, inl, inr, arith}
use Rattle.std.specs.Prelude.{All, Contains, flat_map, slice_get}
use Rattle.std.specs.BTreeMap.{BTreeMap, get}
use Rattle.std.proofs.lemmas.Bool.{cases_lt}
use Rattle.std.proofs.lemmas.List.{length-append, append-nil, get_or_past}
use Rattle.std.proofs.lemmas.List.Elements.{Contains-append_left, Contains-append_right, Contains-append_cases, Contains-push, Contains-push_cases}
use Rattle.std.proofs.lemmas.Option.{same_Some, slice_get_within, slice_get-get_or, get_or_from_slice_get}
use Rattle.gt_types.specs.declared.expressions.Expr.{Expr}
use Rattle.gt_types.specs.declared.types.TypeId.{TypeId}
use Rattle.gt_walk.specs.declared.rows.WalkRow.{WalkRow}
use Rattle.gt_walk.specs.declared.tables.Tables.{Tables}
use Rattle.gt_walk.specs.Rows.{rows_of}
use Rattle.gt_walk.specs.Nested.{parts_in}
use Rattle.gt_alike.specs.Alike.{AreEqual, AreAlike}
use Rattle.gt_alike.proofs.Equal.{IsFlat, equal-are-alike}
use Rattle.gt_tables.specs.declared.sources.Around.{Around}
use Rattle.gt_tables.specs.declared.sources.Part.{Part}
use Rattle.gt_tables.specs.declared.sources.Source.{Source}
use Rattle.gt_tables.specs.declared.parts.Case.{Case}
use Rattle.gt_tables.specs.Building.{part_cmp, case_cmp, case_of, first_of, HaveWalks, IsFiled, AreNew, Files, HasRows, HasEqual, IsLast, ServesPart}
use Rattle.gt_tables.specs.Ordered.{IsOrdered, exprs_in}
use Rattle.gt_tables.specs.Sharing.{IsNamed, AreDistinct}
use Rattle.gt_tables.specs.Counting.{named_by, IsKept, IsKeptWalk, ServesValue, AreApart}
use Rattle.gt_tables.proofs.EqualRows.{part-flat, are-equal-back}
use Rattle.gt_tables.proofs.Filing.{slice-end}
use Rattle.gt_tables.proofs.Growing.{fewer}
use Rattle.gt_tables.proofs.Keeping.{rows-there, equal-parts}
use Rattle.gt_tables.proofs.NamedParts.{in-none, in-one, in-swapped, named-at, named-from, named-append, named-push}
use Rattle.gt_tables.proofs.ServingRoots.{get-front}

-- a walk with these rows was made for a part
pub kept-equal : (source : Source) (rows : List WalkRow) (walks : List (List WalkRow)) (cases : BTreeMap Case ℕ) (walk : ℕ) → HasEqual (first_of source) rows walks cases walk → IsKeptWalk source cases walk
kept-equal source rows walks cases walk has = (has.1.place, has.1.number, (case_of has.1.filed.rows has.1.filed.turn, has.1.filed.is))

-- ---- the same walks

module _ (source : Source) (walks : List (List WalkRow)) (cases : BTreeMap Case ℕ) (known : BTreeMap Part (Option ℕ)) (own hand more : List ℕ) where
  -- other walks of parts are in hand, and rows name what was in hand
  pub apart-hand : ((n : ℕ) → Contains more n → IsKeptWalk source cases n) → ((n : ℕ) → Contains hand n → Contains (named_by walks ++ more) n) → AreApart source walks cases known own hand
      → AreApart source walks cases known own more
  apart-hand kept still a = record {
    filed = a.filed;
    serve = a.serve;
    apart = a.apart;
    known = a.known;
    named = λ n is. elim (Contains-append_cases (named_by walks) more n is) [
      | inl before ↦ a.named n (Contains-append_left (named_by walks) hand n before)
      | inr now ↦ kept n now
    ];
    used = λ place within. elim (a.used place within) [
      | inl root ↦ inl root
      | inr is ↦ elim (Contains-append_cases (named_by walks) hand (first_of source + place) is) [
        | inl before ↦ inr (Contains-append_left (named_by walks) more (first_of source + place) before)
        | inr held ↦ inr (still (first_of source + place) held)
      ]
    ];
  }

-- one walk more is in hand, of a part that was made before
pub apart-one : (source : Source) (walks : List (List WalkRow)) (cases : BTreeMap Case ℕ) (known : BTreeMap Part (Option ℕ)) (own hand : List ℕ) (walk : ℕ) → IsKeptWalk source cases walk
    → AreApart source walks cases known own (hand ++ []) → AreApart source walks cases known own (hand ++ walk ∷ [])
apart-one source walks cases known own hand walk kept a =
    apart-hand source walks cases known own (hand ++ []) (hand ++ walk ∷ [])
    (λ n is. elim (Contains-push_cases hand walk n is) [
      | inl mine ↦ a.named n (Contains-append_right (named_by walks) (hand ++ []) n (Contains-append_left hand [] n mine))
      | inr same ↦ subst (IsKeptWalk source cases) same kept
    ])
    (λ n is. elim (Contains-append_cases hand [] n is) [
      | inl mine ↦ Contains-append_right (named_by walks) (hand ++ walk ∷ []) n (Contains-append_left hand (walk ∷ []) n mine)
      | inr none ↦ absurd (in-none n none)
    ]) a

-- more is known of parts
pub apart-known : (source : Source) (walks now : List (List WalkRow)) (cases filed : BTreeMap Case ℕ) (known after : BTreeMap Part (Option ℕ)) (own hand : List ℕ) → now ≡ walks → filed ≡ cases
    → ((part : Part) (walk : ℕ) → get part_cmp after part ≡ Some (Some walk) → (get part_cmp known part ≡ Some (Some walk)) ⊎ IsKeptWalk source filed walk) → AreApart source walks cases known own hand
    → AreApart source now filed after own hand
apart-known source walks now cases filed known after own hand same alike learned a =
    let b : AreApart source now filed known own hand = subst (λ ws. AreApart source ws filed known own hand) (sym same) (subst (λ cs. AreApart source walks cs known own hand) (sym alike) a) in
    record {
      filed = b.filed;
      serve = b.serve;
      apart = b.apart;
      known = λ part walk got. elim (learned part walk got) [
        | inl old ↦ b.known part walk old
        | inr new ↦ new
      ];
      named = b.named;
      used = b.used;
    }

-- the rows in hand are those of a walk that stands already
pub apart-shared : (source : Source) (walks : List (List WalkRow)) (cases : BTreeMap Case ℕ) (known : BTreeMap Part (Option ℕ)) (own hand : List ℕ) (rows : List WalkRow) (walk : ℕ)
    → HasEqual (first_of source) rows walks cases walk → AreApart source walks cases known own (hand ++ flat_map parts_in rows) → AreApart source walks cases known own (hand ++ walk ∷ [])
apart-shared source walks cases known own hand rows walk has a =
    let parts = flat_map parts_in rows in
    apart-hand source walks cases known own (hand ++ parts) (hand ++ walk ∷ [])
    (λ n is. elim (Contains-push_cases hand walk n is) [
      | inl mine ↦ a.named n (Contains-append_right (named_by walks) (hand ++ parts) n (Contains-append_left hand parts n mine))
      | inr same ↦ subst (IsKeptWalk source cases) same (kept-equal source rows walks cases walk has)
    ])
    (λ n is. elim (Contains-append_cases hand parts n is) [
      | inl mine ↦ Contains-append_right (named_by walks) (hand ++ walk ∷ []) n (Contains-append_left hand (walk ∷ []) n mine)
      | inr here ↦
          let there : Contains (flat_map parts_in has.0) n = subst (λ l. Contains l n) (sym (equal-parts has.0 rows has.2)) here in
          Contains-append_left (named_by walks) (hand ++ walk ∷ []) n (named-at walks has.1.place has.0 n has.1.here there)
    ]) a

-- ---- one walk more

module _ (source : Source) (walks now : List (List WalkRow)) (cases filed : BTreeMap Case ℕ) (files : Files walks cases now filed) (rows : List WalkRow) (one : files.more ≡ rows ∷ []) where
  grown-one : now ≡ walks ++ rows ∷ []
  grown-one = files.grown ∙ ap (λ m. walks ++ m) one

  long-one : length now ≡ length walks + 1
  long-one = ap length grown-one ∙ length-append walks (rows ∷ [])

  named-now : named_by now ≡ named_by walks ++ flat_map parts_in rows
  named-now = ap named_by grown-one ∙ named-push walks rows

  was : (i : ℕ) (a : List WalkRow) → i < length walks → slice_get now i ≡ Some a → slice_get walks i ≡ Some a
  was i a lt got = sym (get-front walks (rows ∷ []) i lt) ∙ ap (λ ws. slice_get ws i) (sym grown-one) ∙ got

  last-is : (b : List WalkRow) → slice_get now (length walks) ≡ Some b → rows ≡ b
  last-is b got = same_Some rows b (sym (slice-end walks rows) ∙ ap (λ ws. slice_get ws (length walks)) (sym grown-one) ∙ got)

  serve-still : (place : ℕ) → ServesValue source walks place → ServesValue source now place
  serve-still place s = (
    s.0,
    s.1,
    s.2,
    λ tables h. s.3 tables (fewer (first_of source) walks files.more tables (subst (λ ws. HaveWalks (first_of source) ws tables) files.grown h)),
  )

  -- what rows name now, they named, or it is in hand from now on
  named-back : (hand more : List ℕ) (n : ℕ) → Contains (named_by now ++ (hand ++ more)) n → Contains (named_by walks ++ (hand ++ flat_map parts_in rows)) n ⊎ Contains more n
  named-back hand more n is =
      let parts = flat_map parts_in rows in
      elim (Contains-append_cases (named_by now) (hand ++ more) n is) [
        | inl walked ↦ elim (Contains-append_cases (named_by walks) parts n (subst (λ l. Contains l n) named-now walked)) [
          | inl before ↦ inl (Contains-append_left (named_by walks) (hand ++ parts) n before)
          | inr here ↦ inl (Contains-append_right (named_by walks) (hand ++ parts) n (Contains-append_right hand parts n here))
        ]
        | inr held ↦ elim (Contains-append_cases hand more n held) [
          | inl mine ↦ inl (Contains-append_right (named_by walks) (hand ++ parts) n (Contains-append_left hand parts n mine))
          | inr new ↦ inr new
        ]
      ]

  -- what rows named, they name now
  named-on : (hand more : List ℕ) (n : ℕ) → Contains (named_by walks ++ (hand ++ flat_map parts_in rows)) n → Contains (named_by now ++ (hand ++ more)) n
  named-on hand more n is =
      let parts = flat_map parts_in rows in
      elim (Contains-append_cases (named_by walks) (hand ++ parts) n is) [
        | inl before ↦ Contains-append_left (named_by now) (hand ++ more) n (subst (λ l. Contains l n) (sym named-now) (Contains-append_left (named_by walks) parts n before))
        | inr held ↦ elim (Contains-append_cases hand parts n held) [
          | inl mine ↦ Contains-append_right (named_by now) (hand ++ more) n (Contains-append_left hand more n mine)
          | inr here ↦ Contains-append_left (named_by now) (hand ++ more) n (subst (λ l. Contains l n) (sym named-now) (Contains-append_right (named_by walks) parts n here))
        ]
      ]

  module _ (known : BTreeMap Part (Option ℕ)) (own hand : List ℕ) (a : AreApart source walks cases known own (hand ++ flat_map parts_in rows)) where
    kept-within : (place : ℕ) → IsKept cases place → place < length walks
    kept-within place kept = let at = a.filed place kept in slice_get_within walks place at.rows at.there

    kept-on : (walk : ℕ) → IsKeptWalk source cases walk → IsKeptWalk source filed walk
    kept-on walk kept =
        let at = files.stay kept.0 (a.filed kept.0 kept.2) in
        (kept.0, kept.1, (case_of at.rows at.turn, at.is))

    -- the walk of a part, where no other has its rows
    module _ (last : IsLast walks cases filed) (new : AreNew walks cases rows) where
      kept-cases : (place : ℕ) → IsKept filed place → IsKept cases place ⊎ (place ≡ length walks)
      kept-cases place kept = elim (last kept.0 place kept.1) [
        | inl old ↦ inl (kept.0, old)
        | inr at ↦ inr at
      ]

      apart-all : (i j : ℕ) (x y : List WalkRow) → i < j → IsKept filed i → IsKept filed j → slice_get now i ≡ Some x → slice_get now j ≡ Some y → ¬ AreAlike x y
      apart-all i j x y less one-kept two-kept here there alike = elim (kept-cases i one-kept) [
        | inl first ↦ elim (kept-cases j two-kept) [
          | inl second ↦ a.apart i j x y less first second (was i x (kept-within i first) here) (was j y (kept-within j second) there) alike
          | inr at ↦
              let stands : AreAlike x rows = subst (AreAlike x) (sym (last-is y (subst (λ n. slice_get now n ≡ Some y) at there))) alike in
              new i (a.filed i first) (x, was i x (kept-within i first) here, stands)
        ]
        | inr at ↦ elim (kept-cases j two-kept) [
          | inl second ↦ let within = kept-within j second in omega (arith, less, at, within)
          | inr also ↦ omega (arith, less, at, also)
        ]
      ]

      pub apart-part : (after : BTreeMap Part (Option ℕ)) (walk : ℕ) (around : Around) (node : TypeId) (desc : Option Expr) → HasRows (first_of source) rows now filed walk → walk ≡ first_of source + length walks
          → ServesPart source now around node desc (Some walk)
          → ((part : Part) (w : ℕ) → get part_cmp after part ≡ Some (Some w) → (get part_cmp known part ≡ Some (Some w)) ⊎ IsKeptWalk source filed w) → AreApart source now filed after own (hand ++ walk ∷ [])
      apart-part after walk around node desc has number serves learned =
          let at : has.place ≡ length walks = omega (arith, has.number, number) in
          let here : IsFiled now filed (length walks) = subst (IsFiled now filed) at has.filed in
          let kept : IsKeptWalk source filed walk = (has.place, has.number, (case_of has.filed.rows has.filed.turn, has.filed.is)) in
          record {
            filed = λ place is. elim (kept-cases place is) [
              | inl old ↦ files.stay place (a.filed place old)
              | inr new ↦ subst (IsFiled now filed) (sym new) here
            ];
            serve = λ place is. elim (kept-cases place is) [
              | inl old ↦ serve-still place (a.serve place old)
              | inr new ↦ (around, node, desc, subst (λ n. ServesPart source now around node desc (Some n)) (number ∙ ap (λ n. first_of source + n) (sym new)) serves)
            ];
            apart = apart-all;
            known = λ part w got. elim (learned part w got) [
              | inl old ↦ kept-on w (a.known part w old)
              | inr new ↦ new
            ];
            named = λ n is. elim (named-back hand (walk ∷ []) n is) [
              | inl before ↦ kept-on n (a.named n before)
              | inr new ↦ subst (IsKeptWalk source filed) (in-one walk n new) kept
            ];
            used = λ place within. elim (cases_lt place (length walks)) [
              | inl lt ↦ elim (a.used place lt) [
                | inl root ↦ inl root
                | inr is ↦ inr (named-on hand (walk ∷ []) (first_of source + place) is)
              ]
              | inr le ↦
                  let is : walk ≡ first_of source + place = omega (arith, number, le, within, long-one) in
                  inr (Contains-append_right (named_by now) (hand ++ walk ∷ []) (first_of source + place) (subst (Contains (hand ++ walk ∷ [])) is (Contains-push hand walk)))
            ];
          }

    -- the walk of a root
    pub apart-root : (more : List ℕ) (walk : ℕ) → filed ≡ cases → walk ≡ first_of source + length walks → more ≡ own ++ walk ∷ [] → AreApart source now filed known more hand
    apart-root more walk same number is =
        let back : (place : ℕ) → IsKept filed place → IsKept cases place = λ place kept. (kept.0, ap (λ m. get case_cmp m kept.0) (sym same) ∙ kept.1) in
        record {
          filed = λ place kept. files.stay place (a.filed place (back place kept));
          serve = λ place kept. serve-still place (a.serve place (back place kept));
          apart = λ i j x y less one-kept two-kept here there.
              let first = back i one-kept in
              let second = back j two-kept in
              a.apart i j x y less first second (was i x (kept-within i first) here) (was j y (kept-within j second) there);
          known = λ part w got. kept-on w (a.known part w got);
          named = λ n names. elim (named-back hand [] n (subst (λ l. Contains (named_by now ++ l) n) (sym (append-nil hand)) names)) [
            | inl before ↦ kept-on n (a.named n before)
            | inr none ↦ absurd (in-none n none)
          ];
          used = λ place within. elim (cases_lt place (length walks)) [
            | inl lt ↦ elim (a.used place lt) [
              | inl root ↦ inl (subst (λ l. Contains l (first_of source + place)) (sym is) (Contains-append_left own (walk ∷ []) (first_of source + place) root))
              | inr names ↦ inr (subst (λ l. Contains (named_by now ++ l) (first_of source + place)) (append-nil hand) (named-on hand [] (first_of source + place) names))
            ]
            | inr le ↦
                let at : walk ≡ first_of source + place = omega (arith, number, le, within, long-one) in
                inl (subst (Contains more) at (subst (λ l. Contains l walk) (sym is) (Contains-push own walk)))
          ];
        }

-- there are none
pub apart-none : (source : Source) (walks : List (List WalkRow)) (cases : BTreeMap Case ℕ) (known : BTreeMap Part (Option ℕ)) → walks ≡ [] → ((case : Case) → get case_cmp cases case ≡ None)
    → ((part : Part) → get part_cmp known part ≡ None) → AreApart source walks cases known [] []
apart-none source walks cases known none unfiled unknown = record {
  filed = λ place kept. absurd (cc (unfiled kept.0, kept.1));
  serve = λ place kept. absurd (cc (unfiled kept.0, kept.1));
  apart = λ i j a b less first second here there. absurd (cc (unfiled first.0, first.1));
  known = λ part walk got. absurd (cc (unknown part, got));
  named = λ n is. absurd (in-none n (subst (λ ws. Contains (named_by ws ++ []) n) none is));
  used = λ place within. let nothing = ap length none in absurd (omega (arith, within, nothing));
}

-- ---- the tables

-- the walks of tables are those of blocks, which are in hand, and the others
module _ (source : Source) (tables : Tables) (walks parts : List (List WalkRow)) (cases : BTreeMap Case ℕ) (known : BTreeMap Part (Option ℕ)) (own : List ℕ) (is : tables.walks ≡ walks ++ parts)
    (long : length walks ≡ first_of source) (have : HaveWalks (first_of source) parts tables) (roots : tables.roots ≡ own) (a : AreApart source parts cases known own (named_by walks)) where
  all-named : named_by tables.walks ≡ named_by walks ++ named_by parts
  all-named = ap named_by is ∙ named-append walks parts

  is-named : (n : ℕ) → Contains (named_by parts ++ named_by walks) n → IsNamed tables n
  is-named n names =
      let found = named-from tables.walks n (subst (λ l. Contains l n) (sym all-named) (in-swapped (named_by parts) (named_by walks) n names)) in
      (found.0, subst (λ rows. Contains (flat_map parts_in rows) n) (sym (get_or_from_slice_get tables.walks found.0 found.1 [] found.2)) found.3)

  named-is : (n : ℕ) → IsNamed tables n → Contains (named_by parts ++ named_by walks) n
  named-is n names = elim (cases_lt names.0 (length tables.walks)) [
    | inl within ↦
        let at = named-at tables.walks names.0 (rows_of tables names.0) n (slice_get-get_or tables.walks names.0 [] within) names.1 in
        in-swapped (named_by walks) (named_by parts) n (subst (λ l. Contains l n) all-named at)
    | inr past ↦ absurd (in-none n (subst (λ rows. Contains (flat_map parts_in rows) n) (get_or_past tables.walks names.0 [] past) names.1))
  ]

  rows-here : (place : ℕ) (kept : IsKept cases place) → rows_of tables (first_of source + place) ≡ (a.filed place kept).rows
  rows-here place kept = rows-there source.program.now (first_of source) parts 0 (a.filed place kept).rows place (a.filed place kept).there tables have

  apart-kept : (i j : ℕ) → i < j → IsKept cases i → IsKept cases j → AreEqual (rows_of tables (first_of source + i)) (rows_of tables (first_of source + j)) → ⊥
  apart-kept i j less first second equal =
      let one = rows_of tables (first_of source + i) in
      let two = rows_of tables (first_of source + j) in
      let flat : All IsFlat one = part-flat ((a.serve i first).3 tables have) in
      let alike : AreAlike one two = equal-are-alike one two flat equal in
      let x = a.filed i first in
      let y = a.filed j second in
      a.apart i j x.rows y.rows less first second x.there y.there (subst (λ rows. AreAlike rows y.rows) (rows-here i first) (subst (AreAlike one) (rows-here j second) alike))

  pub tables-apart : first_of source + length parts ≡ length tables.walks → All (λ rows. All IsOrdered (flat_map exprs_in rows)) tables.walks → AreDistinct source.program.now tables
  tables-apart all ordered = record {
    ordered = ordered;
    used = λ walk late within.
        let place = walk - first_of source in
        let same : first_of source + (walk - first_of source) ≡ walk = omega (arith, late) in
        let inside : walk - first_of source < length parts = omega (arith, late, within, all) in
        elim (a.used place inside) [
          | inl root ↦ inl (subst (λ l. Contains l walk) (sym roots) (subst (Contains own) same root))
          | inr names ↦ inr (is-named walk (subst (Contains (named_by parts ++ named_by walks)) same names))
        ];
    apart = λ v w other first second equal.
        let x = a.named v (named-is v first) in
        let y = a.named w (named-is w second) in
        let equals : AreEqual (rows_of tables (first_of source + x.0)) (rows_of tables (first_of source + y.0)) =
        subst (λ n. AreEqual (rows_of tables n) (rows_of tables (first_of source + y.0))) x.1 (subst (λ n. AreEqual (rows_of tables v) (rows_of tables n)) y.1 equal) in
        elim (cases_lt x.0 y.0) [
          | inl before ↦ apart-kept x.0 y.0 before x.2 y.2 equals
          | inr le ↦ elim (cases_lt y.0 x.0) [
            | inl after ↦ apart-kept y.0 x.0 after y.2 x.2 (are-equal-back (rows_of tables (first_of source + x.0)) (rows_of tables (first_of source + y.0)) equals)
            | inr ge ↦
                let here : x.0 ≡ y.0 = omega (arith, le, ge) in
                other (x.1 ∙ ap (λ n. first_of source + n) here ∙ sym y.1)
          ]
        ];
  }
