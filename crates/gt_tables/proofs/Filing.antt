-- Walks that are found by their rows.
use Rattle.std.proofs.Common.{◌≡◌, ◌∙◌, ℕ, zero, suc, ◌+◌, ◌≤◌, ◌<◌, Bool, true, false, cond, List, [], ◌∷◌, ◌++◌, length, refl, ap, sym, subst, Option, Some, None, ◌⊎◌, inl, inr, arith}
use Rattle.std.specs.Prelude.{slice_get}
use Rattle.std.specs.Ordering.{nat_cmp, ordering_then, is_eq}
use Rattle.std.specs.declared.cmp.Ordering.{Ordering}
use Rattle.std.specs.declared.cmp.Ordering.TheVariants.{Equal}
use Rattle.std.specs.BTreeMap.{BTreeMap, get, is_at}
use Rattle.std.proofs.lemmas.Bool.{cases_lt}
use Rattle.std.proofs.lemmas.Cmp.{tied_itself, nat_cmp_total}
use Rattle.std.proofs.lemmas.List.{append-nil}
use Rattle.std.proofs.lemmas.Map.Lookups.{exact_unsigned}
use Rattle.std.proofs.lemmas.Option.{none-some, same_Some}
use Rattle.gt_walk.specs.declared.rows.WalkRow.{WalkRow}
use Rattle.gt_tables.specs.declared.sources.Part.{Part}
use Rattle.gt_tables.specs.declared.parts.Case.{Case}
use Rattle.gt_tables.specs.declared.parts.Parts.{Parts}
use Rattle.gt_tables.specs.Building.{part_cmp, case_cmp, case_of, IsFiled, HaveTurns, StandsAt, AreNew, WereTried, IsFree, Files, HasRows, IsLast, Shares, Keeps}
use Rattle.gt_alike.specs.Prints.{rows_print}
use Rattle.gt_alike.proofs.Equal.{equal-itself, alike-are-equal, equal-prints}
use Rattle.gt_tables.proofs.Keeping.{is-eq-first, is-eq-rest}

-- ---- lists of walks

pub slice-on : {X : Type 0} (xs more : List X) (place : ℕ) (x : X) → slice_get xs place ≡ Some x → slice_get (xs ++ more) place ≡ Some x
slice-on [] more place x e = absurd (cc (e))
slice-on (y ∷ xs) more zero x e = e
slice-on (y ∷ xs) more (suc place) x e = slice-on xs more place x e

pub slice-end : {X : Type 0} (xs : List X) (x : X) → slice_get (xs ++ x ∷ []) (length xs) ≡ Some x
slice-end [] x = refl
slice-end (y ∷ xs) x = slice-end xs x

-- ---- cases in order

pub both-tied : (a b : Ordering) → a ≡ Equal → b ≡ Equal → ordering_then a b ≡ Equal
both-tied a b ea eb = ap (λ o. ordering_then o b) ea ∙ eb

pub nat-tied : (n : ℕ) → nat_cmp n n ≡ Equal
nat-tied n = tied_itself nat_cmp_total n

case-tied : (c : Case) → is_at (case_cmp c) c ≡ true
case-tied c = ap is_eq (both-tied (nat_cmp c.print c.print) (nat_cmp c.turn c.turn) (nat-tied c.print) (nat-tied c.turn))

exact-case : (c d : Case) → is_at (case_cmp c) d ≡ true → c ≡ d
exact-case c d is =
    let print = exact_unsigned c.print d.print (is-eq-first (nat_cmp c.print d.print) (nat_cmp c.turn d.turn) is) in
    let turn = exact_unsigned c.turn d.turn (is-eq-rest (nat_cmp c.print d.print) (nat_cmp c.turn d.turn) is) in
    let one : c ≡ record { print = d.print; turn = c.turn } = ap (λ (n : ℕ). record { print = n; turn = c.turn }) print in
    one ∙ ap (λ (n : ℕ). record { print = d.print; turn = n }) turn

-- ---- a walk is looked for

pub tried-none : (walks : List (List WalkRow)) (cases : BTreeMap Case ℕ) (rows : List WalkRow) → WereTried walks cases rows 0
tried-none walks cases rows n lt = absurd (omega (arith, lt))

pub tried-more : (walks : List (List WalkRow)) (cases : BTreeMap Case ℕ) (rows : List WalkRow) (turn place : ℕ) → get case_cmp cases (case_of rows turn) ≡ Some place → ¬ StandsAt walks place rows
    → WereTried walks cases rows turn → WereTried walks cases rows (turn + 1)
tried-more walks cases rows turn place at other tried n lt = elim (cases_lt n turn) [
  | inl before ↦ tried n before
  | inr le ↦
      let same : n ≡ turn = omega (arith, lt, le) in
      (place, subst (λ m. get case_cmp cases (case_of rows m) ≡ Some place) (sym same) at, other)
]

-- where this turn is free and those before it have other rows, no walk has these
are-new : (walks : List (List WalkRow)) (cases : BTreeMap Case ℕ) (rows : List WalkRow) (turn : ℕ) → HaveTurns cases → WereTried walks cases rows turn
    → get case_cmp cases (case_of rows turn) ≡ None → AreNew walks cases rows
are-new walks cases rows turn turns tried none place filed has =
    let same : filed.rows ≡ has.0 = same_Some filed.rows has.0 (sym filed.there ∙ has.1) in
    let print : rows_print filed.rows ≡ rows_print rows = ap rows_print same ∙ equal-prints has.0 rows (alike-are-equal has.0 rows has.2) in
    let at : get case_cmp cases (case_of rows filed.turn) ≡ Some place = subst (λ (n : ℕ). get case_cmp cases (record { print = n; turn = filed.turn }) ≡ Some place) print filed.is in
    elim (cases_lt filed.turn turn) [
      | inl before ↦
          let other = tried filed.turn before in
          let here : other.0 ≡ place = same_Some other.0 place (sym other.1 ∙ at) in
          other.2 (subst (λ p. StandsAt walks p rows) (sym here) has)
      | inr le ↦ let other = turns (case_of rows filed.turn) place turn at le in none-some other.0 (sym none ∙ other.1)
    ]

pub free-here : (walks : List (List WalkRow)) (cases : BTreeMap Case ℕ) (rows : List WalkRow) (case : Case) (turn : ℕ) → case ≡ case_of rows turn → HaveTurns cases → WereTried walks cases rows turn
    → get case_cmp cases case ≡ None → IsFree walks cases rows case
free-here walks cases rows case turn is turns tried none =
    let free : get case_cmp cases (case_of rows turn) ≡ None = subst (λ c. get case_cmp cases c ≡ None) is none in
    record { turn = turn; is = is; none = none; tried = tried; new = are-new walks cases rows turn turns tried free }

pub filed-here : (walks : List (List WalkRow)) (cases : BTreeMap Case ℕ) (rows : List WalkRow) (case : Case) (turn place : ℕ) → case ≡ case_of rows turn → get case_cmp cases case ≡ Some place
    → StandsAt walks place rows → StandsAt walks place rows × IsFiled walks cases place
filed-here walks cases rows case turn place is at has =
    let print : rows_print rows ≡ rows_print has.0 = sym (equal-prints has.0 rows (alike-are-equal has.0 rows has.2)) in
    let there : get case_cmp cases (case_of rows turn) ≡ Some place = subst (λ c. get case_cmp cases c ≡ Some place) is at in
    (has, record { rows = has.0; turn = turn; there = has.1; is = subst (λ (n : ℕ). get case_cmp cases (record { print = n; turn = turn }) ≡ Some place) print there })

-- ---- a walk is put in

module _ (cases now : BTreeMap Case ℕ) (c : Case) (place : ℕ) (none : get case_cmp cases c ≡ None) (updates : (q : Case) → get case_cmp now q ≡ cond (is_at (case_cmp c) q) (Some place) (get case_cmp cases q)) where
  put-here : get case_cmp now c ≡ Some place
  put-here = updates c ∙ ap (λ b. cond b (Some place) (get case_cmp cases c)) (case-tied c)

  other-by : (q : Case) (p : ℕ) (b : Bool) → is_at (case_cmp c) q ≡ b → get case_cmp cases q ≡ Some p → get case_cmp now q ≡ Some p
  other-by q p true at got = absurd (none-some p (sym (subst (λ x. get case_cmp cases x ≡ None) (exact-case c q at) none) ∙ got))
  other-by q p false at got = updates q ∙ ap (λ b. cond b (Some place) (get case_cmp cases q)) at ∙ got

  put-other : (q : Case) (p : ℕ) → get case_cmp cases q ≡ Some p → get case_cmp now q ≡ Some p
  put-other q p got = other-by q p (is_at (case_cmp c) q) refl got

  filed-stays : (walks more : List (List WalkRow)) (p : ℕ) → IsFiled walks cases p → IsFiled (walks ++ more) now p
  filed-stays walks more p filed = record {
    rows = filed.rows;
    turn = filed.turn;
    there = slice-on walks more p filed.rows filed.there;
    is = put-other (case_of filed.rows filed.turn) p filed.is;
  }

  module _ (walks : List (List WalkRow)) (rows : List WalkRow) (turn : ℕ) (is : c ≡ case_of rows turn) (tried : WereTried walks cases rows turn) (turns : HaveTurns cases) where
    turn-here : (n : ℕ) → n ≤ turn → (other : ℕ) × (get case_cmp now (case_of rows n) ≡ Some other)
    turn-here n le = elim (cases_lt n turn) [
      | inl before ↦ let other = tried n before in (other.0, put-other (case_of rows n) other.0 other.1)
      | inr after ↦
          let same : n ≡ turn = omega (arith, le, after) in
          (place, subst (λ x. get case_cmp now x ≡ Some place) (is ∙ ap (case_of rows) (sym same)) put-here)
    ]

    turns-by : (d : Case) (p n : ℕ) (b : Bool) → is_at (case_cmp c) d ≡ b → get case_cmp now d ≡ Some p → n ≤ d.turn → (other : ℕ) × (get case_cmp now (record { print = d.print; turn = n }) ≡ Some other)
    turns-by d p n true at got le =
        let same : d ≡ case_of rows turn = sym (exact-case c d at) ∙ is in
        let most : n ≤ turn = subst (λ (x : Case). n ≤ x.turn) same le in
        subst (λ (x : Case). (other : ℕ) × (get case_cmp now (record { print = x.print; turn = n }) ≡ Some other)) (sym same) (turn-here n most)
    turns-by d p n false at got le =
        let had : get case_cmp cases d ≡ Some p = sym (updates d ∙ ap (λ b. cond b (Some place) (get case_cmp cases d)) at) ∙ got in
        let other = turns d p n had le in
        (other.0, put-other (record { print = d.print; turn = n }) other.0 other.1)

    now-turns : HaveTurns now
    now-turns d p n got le = turns-by d p n (is_at (case_cmp c) d) refl got le

-- what was put in is the last one
last-by : (place : ℕ) (old new : Option ℕ) (b : Bool) → new ≡ cond b (Some place) old → (p : ℕ) → new ≡ Some p → (old ≡ Some p) ⊎ (p ≡ place)
last-by place old new true is p got = inr (same_Some p place (sym got ∙ is))
last-by place old new false is p got = inl (sym is ∙ got)

last-here : (cases now : BTreeMap Case ℕ) (c : Case) (place : ℕ) → ((q : Case) → get case_cmp now q ≡ cond (is_at (case_cmp c) q) (Some place) (get case_cmp cases q)) → (walks : List (List WalkRow)) → place ≡ length walks
    → IsLast walks cases now
last-here cases now c place updates walks at q p got = elim (last-by place (get case_cmp cases q) (get case_cmp now q) (is_at (case_cmp c) q) (updates q) p got) [
  | inl h ↦ inl h
  | inr h ↦ inr (h ∙ at)
]

-- the walk that stands already
pub shares-old : (first : ℕ) (rows : List WalkRow) (walks : List (List WalkRow)) (cases : BTreeMap Case ℕ) (place walk : ℕ) → HaveTurns cases → StandsAt walks place rows × IsFiled walks cases place
    → walk ≡ first + place → Shares first rows walks cases walks cases walk
shares-old first rows walks cases place walk turns found number = record {
  files = record { more = []; grown = sym (append-nil walks); stay = λ p filed. filed };
  turns = turns;
  has = (found.0.0, record { place = place; number = number; here = found.0.1; filed = found.1 }, alike-are-equal found.0.0 rows found.0.2);
  shared = inl (refl, refl);
}

-- a new one
pub shares-new : (first : ℕ) (rows : List WalkRow) (walks now : List (List WalkRow)) (cases filed : BTreeMap Case ℕ) (c : Case) (place walk : ℕ) → HaveTurns cases → IsFree walks cases rows c
    → now ≡ walks ++ rows ∷ [] → ((q : Case) → get case_cmp filed q ≡ cond (is_at (case_cmp c) q) (Some place) (get case_cmp cases q)) → walk ≡ first + length walks → place ≡ length walks
    → Shares first rows walks cases now filed walk
shares-new first rows walks now cases filed c place walk turns free is updates number at =
    let here : slice_get now place ≡ Some rows = subst (λ ws. slice_get ws place ≡ Some rows) (sym is) (subst (λ p. slice_get (walks ++ rows ∷ []) p ≡ Some rows) (sym at) (slice-end walks rows)) in
    let has : HasRows first rows now filed walk =
    record {
      place = place;
      number = omega (arith, number, at);
      here = here;
      filed = record { rows = rows; turn = free.turn; there = here; is = subst (λ x. get case_cmp filed x ≡ Some place) free.is (put-here cases filed c place free.none updates) };
    } in
    record {
      files = record {
        more = rows ∷ [];
        grown = is;
        stay = λ p was. subst (λ ws. IsFiled ws filed p) (sym is) (filed-stays cases filed c place free.none updates walks (rows ∷ []) p was);
      };
      turns = now-turns cases filed c place free.none updates walks rows free.turn free.is free.tried turns;
      has = (rows, has, equal-itself rows);
      shared = inr (refl, free.new, (has, number), last-here cases filed c place updates walks at);
    }

-- ---- a part is kept

-- what was known before is known
known-back : (part : Option Part) (old mid new : Parts) → mid.known ≡ old.known → {walk : Option ℕ}
    → ((q : Part) (n : ℕ) → get part_cmp new.known q ≡ Some (Some n) → (get part_cmp mid.known q ≡ Some (Some n)) ⊎ ((p : Part) × (part ≡ Some p) × (q.node ≡ p.node) × (walk ≡ Some n)))
    → (q : Part) (n : ℕ) → get part_cmp new.known q ≡ Some (Some n) → (get part_cmp old.known q ≡ Some (Some n)) ⊎ ((p : Part) × (part ≡ Some p) × (q.node ≡ p.node) × (walk ≡ Some n))
known-back part old mid new same known q n there = elim (known q n there) [
  | inl h ↦ inl (ap (λ m. get part_cmp m q) (sym same) ∙ h)
  | inr h ↦ inr h
]

kept-back : (part : Option Part) (old mid new : Parts) → mid.known ≡ old.known → {walk : Option ℕ}
    → ((q : Part) (w : Option ℕ) → get part_cmp new.known q ≡ Some w → (get part_cmp mid.known q ≡ Some w) ⊎ ((part ≡ Some q) × (walk ≡ w))) → (q : Part) (w : Option ℕ) → get part_cmp new.known q ≡ Some w
    → (get part_cmp old.known q ≡ Some w) ⊎ ((part ≡ Some q) × (walk ≡ w))
kept-back part old mid new same kept q w there = elim (kept q w there) [
  | inl h ↦ inl (ap (λ m. get part_cmp m q) (sym same) ∙ h)
  | inr h ↦ inr h
]

module _ (first : ℕ) (part : Option Part) (rows : List WalkRow) (old mid new : Parts) (walks : new.walks ≡ mid.walks) (cases : new.cases ≡ mid.cases) where
  -- with its walk
  pub keeps-some : (walk : ℕ) → 1 < length rows → mid.known ≡ old.known → Shares first rows old.walks.items old.cases mid.walks.items mid.cases walk
      → ((q : Part) (n : ℕ) → get part_cmp new.known q ≡ Some (Some n) → (get part_cmp mid.known q ≡ Some (Some n)) ⊎ ((p : Part) × (part ≡ Some p) × (q.node ≡ p.node) × (Some walk ≡ Some n)))
      → ((q : Part) (w : Option ℕ) → get part_cmp new.known q ≡ Some w → (get part_cmp mid.known q ≡ Some w) ⊎ ((part ≡ Some q) × (Some walk ≡ w))) → Keeps first part rows old new (Some walk)
  keeps-some walk many same shares known kept =
      let Share = λ (ws : List (List WalkRow)) (cs : BTreeMap Case ℕ). Shares first rows old.walks.items old.cases ws cs walk in
      let now : Share new.walks.items new.cases =
      subst (λ cs. Share new.walks.items cs) (sym cases) (subst (λ ws. Share ws mid.cases) (ap (λ v. v.items) (sym walks)) shares) in
      record {
        files = now.files;
        turns = now.turns;
        has = now.has;
        many = many;
        shared = now.shared;
        none = λ e. absurd (cc (e));
        known = known-back part old mid new same known;
        kept = kept-back part old mid new same kept;
      }

-- without edges
pub keeps-none : (first : ℕ) (part : Option Part) (rows : List WalkRow) (old new : Parts) → new.walks ≡ old.walks → new.cases ≡ old.cases → HaveTurns old.cases
    → ((q : Part) (n : ℕ) → get part_cmp new.known q ≡ Some (Some n) → (get part_cmp old.known q ≡ Some (Some n)) ⊎ ((p : Part) × (part ≡ Some p) × (q.node ≡ p.node) × (None ≡ Some n)))
    → ((q : Part) (w : Option ℕ) → get part_cmp new.known q ≡ Some w → (get part_cmp old.known q ≡ Some w) ⊎ ((part ≡ Some q) × (None ≡ w))) → Keeps first part rows old new None
keeps-none first part rows old new walks cases turns known kept = record {
  files = record {
    more = [];
    grown = ap (λ v. v.items) walks ∙ sym (append-nil old.walks.items);
    stay = λ p filed. subst (λ cs. IsFiled new.walks.items cs p) (sym cases) (subst (λ ws. IsFiled ws old.cases p) (ap (λ v. v.items) (sym walks)) filed);
  };
  turns = subst HaveTurns (sym cases) turns;
  has = tt;
  many = tt;
  shared = inl (refl, cases);
  none = λ e. (refl, cases);
  known = known;
  kept = kept;
}

-- ---- more walks

-- walks are added for no part
pub files-add : (old new : Parts) (more : List (List WalkRow)) → new.walks.items ≡ old.walks.items ++ more → new.cases ≡ old.cases → Files old.walks.items old.cases new.walks.items new.cases
files-add old new more walks cases = record {
  more = more;
  grown = walks;
  stay = λ p filed.
      subst (λ cs. IsFiled new.walks.items cs p) (sym cases)
      (subst (λ ws. IsFiled ws old.cases p) (sym walks)
      (record { rows = filed.rows; turn = filed.turn; there = slice-on old.walks.items more p filed.rows filed.there; is = filed.is }));
}

-- and these are added
pub more-added : (old new : Parts) (more : List (List WalkRow)) (walks : new.walks.items ≡ old.walks.items ++ more) (cases : new.cases ≡ old.cases) → (files-add old new more walks cases).more ≡ more
unfolding files-add
more-added old new more walks cases = refl
