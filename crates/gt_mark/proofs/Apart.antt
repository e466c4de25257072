-- What comes onto the stack is named aside, and each of it once.
use Rattle.std.proofs.Common.{◌≡◌, ◌≢◌, ℕ, ◌+◌, ◌^◌, ◌<◌, ◌⊎◌, ◌==◌, true, false, cond, List, [], ◌∷◌, ◌++◌, length, map, Option, Some, None, is_some, refl, sym, ap, subst, ◌∙◌, inl, inr, arith}
use Rattle.std.specs.Prelude.{◌||◌, Contains, IfSome, nat_eq, nat_lt, option_and_then}
use Rattle.std.specs.List.{AllByRecursion, IsDistinct, list_any}
use Rattle.std.proofs.lemmas.Bool.{cases_eq, eq-eqb, ne_eqb, lt-ltb, false≢true}
use Rattle.std.proofs.lemmas.List.{length-map, map-append}
use Rattle.std.proofs.lemmas.List.Elements.{Contains-push_cases}
use Rattle.std.proofs.lemmas.Cmp.{nat_eq_equiv}
use Rattle.std.proofs.lemmas.Map.Keys.{IsDistinct-push}
use Rattle.gt_space.specs.Range.{Range}
use Rattle.gt_entries.specs.declared.marks.Mark.{Mark}
use Rattle.gt_pages.specs.Slots.{StartsSome, mark_at}
use Rattle.gt_pages.specs.Contents.{Contents}
use Rattle.gt_walk.specs.declared.tables.Tables.{Tables}
use Rattle.gt_walk.specs.Rows.{Edge, edges_of, rows_of, word_at}
use Rattle.gt_mark.specs.declared.spans.Pass.{Pass}
use Rattle.gt_mark.specs.declared.spans.Span.{Span}
use Rattle.gt_mark.specs.declared.stack.Block.{Block}
use Rattle.gt_mark.specs.declared.stack.TheConstants.{MOST_BLOCKS}
use Rattle.gt_mark.specs.Reached.{block_edges}
use Rattle.gt_mark.specs.Rounds.{chain_in_note}
use Rattle.gt_mark.specs.Chains.{chain_place}
use Rattle.gt_mark.specs.Steps.{State, Task, Fits, Good, TakesEdge, known, next, pushed, lost, block_in, marked_pages, postponed_pages}
use Rattle.gt_mark.specs.Wide.{IsAside, IsBeside, IsGained, KeepsAside}
use Rattle.gt_mark.proofs.Remarked.{contains_cases, contains_head, contains_map_from, contains_tail}
use Rattle.gt_mark.proofs.Going.{closed_before, is_at, marked_before, none_before, same_edges}
use Rattle.gt_mark.proofs.Losing.{loses}
use Rattle.gt_mark.proofs.EdgeWords.{edges-read}

abbrev pub number_in : Option ℕ → ℕ
number_in (Some a) = a
number_in None = 0

-- ---- distinct addresses

pub distinct_none : IsDistinct nat_eq []
unfolding IsDistinct
distinct_none = tt

none_equal : (y : ℕ) (xs : List ℕ) → ((a : ℕ) → Contains xs a → y ≢ a) → list_any (nat_eq y) xs ≡ false
none_equal y [] apart = refl
none_equal y (x ∷ xs) apart =
    ap (λ b. b || list_any (nat_eq y) xs) (ne_eqb y x (apart x (contains_head x xs)))
    ∙ none_equal y xs (λ a there. apart a (contains_tail x a xs there))

apart_all : (y : ℕ) (xs : List ℕ) → ((a : ℕ) → Contains xs a → y ≢ a) → AllByRecursion (λ a. nat_eq y a ≡ false) xs
apart_all y [] apart = tt
apart_all y (x ∷ xs) apart = (ne_eqb y x (apart x (contains_head x xs)), apart_all y xs (λ a there. apart a (contains_tail x a xs there)))

distinct_more : (y : ℕ) (xs : List ℕ) → ((a : ℕ) → Contains xs a → y ≢ a) → IsDistinct nat_eq xs → IsDistinct nat_eq (y ∷ xs)
unfolding IsDistinct
distinct_more y xs apart d = (apart_all y xs apart, d)

distinct_pushed : (stack : List Block) (b : Block) → ((a : ℕ) → Contains (map (λ b. b.addr) stack) a → b.addr ≢ a) → IsDistinct nat_eq (map (λ b. b.addr) stack) → IsDistinct nat_eq (map (λ b. b.addr) (stack ++ b ∷ []))
distinct_pushed stack b apart d =
    subst (IsDistinct nat_eq) (sym (map-append (λ b. b.addr) stack (b ∷ [])))
    (IsDistinct-push nat_eq_equiv (map (λ b. b.addr) stack) b.addr d (none_equal b.addr (map (λ b. b.addr) stack) apart))

all_popped : (P : ℕ → Type 0) (rest : List Block) (b : Block) → AllByRecursion P (map (λ b. b.addr) (rest ++ b ∷ [])) → AllByRecursion P (map (λ b. b.addr) rest)
all_popped P [] b all = tt
all_popped P (x ∷ rest) b all = (all.0, all_popped P rest b all.1)

pub distinct_popped : (rest : List Block) (b : Block) → IsDistinct nat_eq (map (λ b. b.addr) (rest ++ b ∷ [])) → IsDistinct nat_eq (map (λ b. b.addr) rest)
unfolding IsDistinct
distinct_popped [] b d = tt
distinct_popped (x ∷ rest) b d = (all_popped (λ a. nat_eq x.addr a ≡ false) rest b d.0, distinct_popped rest b d.1)

-- ---- chains

cases_chain : (c : Option ℕ) (n : ℕ) → (c ≡ Some n) ⊎ (c ≢ Some n)
cases_chain None n = inr (λ h. false≢true (ap is_some h))
cases_chain (Some k) n = elim (cases_eq k n) [
  | inl is ↦ inl (ap Some is)
  | inr apart ↦ inr (λ h. apart (ap number_in h))
]

abbrev place_in : ℕ → ℕ → Option ℕ
place_in addr offset = cond (nat_lt (addr + offset) (2 ^ 64)) (Some (addr + offset)) None

chain_placed : (count addr : ℕ) (o : Option ℕ) (offset place : ℕ) → count ≡ 1 → o ≡ Some offset → place ≡ addr + offset → place < 2 ^ 64
    → cond (count == 1) (option_and_then (λ offset. cond (nat_lt (addr + offset) (2 ^ 64)) (Some (addr + offset)) None) o) None ≡ Some place
chain_placed count addr o offset place one some at small =
    ap (λ c. cond c (option_and_then (place_in addr) o) None) (eq-eqb count 1 one)
    ∙ ap (option_and_then (place_in addr)) some
    ∙ ap (λ c. cond c (Some (addr + offset)) None) (lt-ltb (addr + offset) (2 ^ 64) (subst (λ x. x < 2 ^ 64) at small))
    ∙ ap Some (sym at)

some_not_none : (o : Option Mark) → o ≡ None → is_some o ≡ true → ⊥
some_not_none o none some = false≢true (sym (ap is_some none) ∙ some)

none_of : (o : Option Mark) → (is_some o ≡ true → ⊥) → o ≡ None
none_of None h = refl
none_of (Some m) h = absurd (h refl)

module _ {tables : Tables} {space : Range} (t : Task tables space) where
  -- a block that is not marked was not
  pub before_none : (begun : List ℕ) (hand : Option ℕ) (st : State) → Good t begun hand st → (a : ℕ) → StartsSome t.before.slots a → mark_at st.pages.slots a ≡ None → mark_at t.before.slots a ≡ None
  before_none begun hand st g a start none =
      none_before t a (g.marks a) (g.status a) (sym (is_at t begun hand st g a start) ∙ none)

  -- what is known of an edge, by the place of the chain pointer
  pub record Sides (chain : Option ℕ) (e : Edge) : Type 0 where
    pub read : chain ≡ Some e.place → word_at space e.place ≡ Some e.target
    pub beside : e.place < 2 ^ 64 → chain ≢ Some e.place → mark_at t.before.slots e.target ≡ None → IsBeside t e.target

  pub sides_start : (chain : Option ℕ) (e : Edge) → chain ≡ None → Contains t.starts e.target → Sides chain e
  sides_start chain e none start = record {
    read = λ at. absurd (false≢true (ap is_some (sym none ∙ at)));
    beside = λ small off unmarked. inl start;
  }

  pub sides_block : (b : Block) → Fits t b → (e : Edge) → Contains (edges_of tables b.walk b.count space b.addr) e → Sides (chain_place (rows_of tables b.walk) b) e
  sides_block b f e there =
      let on : Contains (block_edges tables space t.walks b.addr) e = subst (λ l. Contains l e) (same_edges t b f) there in
      record {
        read = λ _. edges-read tables b.walk b.count space b.addr e there;
        beside = λ small off unmarked.
            let fresh : is_some (mark_at t.before.slots b.addr) ≡ true → ⊥ = λ some. some_not_none (mark_at t.before.slots e.target) unmarked (marked_before t e.target (closed_before t b.addr e some on)) in
            inr (
              b.addr,
              e,
              record {
                starts = f.starts;
                reached = elim f.met [ inl some ↦ absurd (fresh some) | inr reached ↦ reached ];
                unmarked = none_of (mark_at t.before.slots b.addr) fresh;
              },
              on,
              (λ k. off (chain_placed b.count b.addr (chain_in_note (rows_of tables b.walk)) k.0 e.place (f.count ∙ k.1) (ap (λ w. chain_in_note (rows_of tables w)) f.walk ∙ k.2) k.3 small)),
              refl,
            );
      }

  -- ---- one edge

  pub chain_same : (old new : State) (e : Edge) → TakesEdge old e new → new.chain ≡ old.chain
  chain_same old new e (known some same) = ap (λ s. s.chain) same
  chain_same old new e (next none is) = ap (λ s. s.chain) is.result
  chain_same old new e (pushed none is) = ap (λ s. s.chain) is.result
  chain_same old new e (lost none is) = ap (λ s. s.chain) (is.result ∙ (loses (record old { pages = postponed_pages (marked_pages old.pages e) e.target }) e.target).rest)

  abbrev IsNamed : State → Block → Type 0
  IsNamed st b = (place : ℕ) × (st.chain ≡ Some place) × (word_at space place ≡ Some b.addr)

  module _ (old : State) (s : KeepsAside t old) (e : Edge) (none : mark_at old.pages.slots e.target ≡ None) where
    -- where the chain pointer lies there, it named this block already
    named_marked : (o : Option Block) → (o ≡ None → ⊥) → old.chain ≡ Some e.place → word_at space e.place ≡ Some e.target → IfSome o (IsNamed old) → IfSome o (λ b. is_some (mark_at old.pages.slots b.addr) ≡ true)
        → is_some (mark_at old.pages.slots e.target) ≡ true
    named_marked None some at read chained followed = absurd (some refl)
    named_marked (Some b) some at read chained followed =
        let place : chained.0 ≡ e.place = ap number_in (sym chained.1 ∙ at) in
        let same : b.addr ≡ e.target = ap number_in (sym chained.2 ∙ ap (word_at space) place ∙ read) in
        subst (λ a. is_some (mark_at old.pages.slots a) ≡ true) same followed

    pub aside_now : IfSome old.next (λ b. is_some (mark_at old.pages.slots b.addr) ≡ true) → Sides old.chain e → e.place < 2 ^ 64 → (old.next ≡ None → old.chain ≢ Some e.place) → IsGained t e.target → IsAside t e.target
    aside_now followed sides small aside gained = elim (cases_chain old.chain e.place) [
      | inl at ↦ absurd (some_not_none (mark_at old.pages.slots e.target) none (named_marked old.next (λ free. aside free at) at (sides.read at) s.chained followed))
      | inr off ↦ record { gained = gained; beside = sides.beside small off gained.unmarked }
    ]

    module _ (stacked : (b : Block) → Contains old.stack b → is_some (mark_at old.pages.slots b.addr) ≡ true) where
      not_yet : (a : ℕ) → Contains (map (λ b. b.addr) old.stack) a → e.target ≢ a
      not_yet a there same =
          let found = contains_map_from (λ b. b.addr) old.stack a there in
          some_not_none (mark_at old.pages.slots e.target) none (ap (λ x. is_some (mark_at old.pages.slots x)) (same ∙ sym found.2) ∙ stacked found.0 found.1)

      pub stacked_pushed : IsAside t e.target → KeepsAside t (record old { pages = marked_pages old.pages e; stack = old.stack ++ block_in e ∷ [] })
      stacked_pushed aside = record {
        distinct = distinct_pushed old.stack (block_in e) not_yet s.distinct;
        aside = λ b there. elim (Contains-push_cases old.stack (block_in e) b there) [
          | inl before ↦ s.aside b before
          | inr top ↦ subst (λ x. IsAside t x.addr) top aside
        ];
        over = s.over;
        chained = s.chained;
      }

      pub stacked_lost : (pages : Contents) (span : Option Span) (pass : Option Pass) → length old.stack ≡ MOST_BLOCKS → IsAside t e.target → KeepsAside t (record old { pages = pages; lost = span; pass = pass })
      stacked_lost pages span pass full aside =
          let long = length-map old.stack (λ b. b.addr) in
          record {
            distinct = s.distinct;
            aside = s.aside;
            over = λ _. record {
              blocks = e.target ∷ map (λ b. b.addr) old.stack;
              distinct = distinct_more e.target (map (λ b. b.addr) old.stack) not_yet s.distinct;
              many = omega (arith, long, full);
              each = λ a there. elim (contains_cases e.target a (map (λ b. b.addr) old.stack) there) [
                | inl is ↦ subst (IsAside t) is aside
                | inr later ↦ let found = contains_map_from (λ b. b.addr) old.stack a later in subst (IsAside t) found.2 (s.aside found.0 found.1)
              ];
            };
            chained = s.chained;
          }

    pub stacked_next : old.chain ≡ Some e.place → word_at space e.place ≡ Some e.target → KeepsAside t (record old { pages = marked_pages old.pages e; next = Some (block_in e) })
    stacked_next at read = record { distinct = s.distinct; aside = s.aside; over = s.over; chained = (e.place, at, read) }
