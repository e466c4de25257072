-- What is answered for a text is so, and what is so is answered.
use Rattle.std.proofs.Common.{◌≡◌, ℕ, ◌<◌, ◌≤◌, inl, inr, List, [], ◌∷◌, ◌++◌, Option, Some, None, Result, Ok, Err, refl, ap, subst, ◌∙◌, sym}
use Rattle.std.specs.Prelude.{IfOk, IfErr}
use Rattle.std.specs.List.{flat_map}
use Rattle.std.proofs.lemmas.List.Elements.{All-from_recursion, recursion_from_All}
use Rattle.gt_types.specs.declared.faults.Fault.{Fault}
use Rattle.gt_types.specs.declared.faults.Stop.{Stop}
use Rattle.gt_types.specs.declared.faults.Stop.TheVariants.{Memory, At}
use Rattle.gt_lex.specs.declared.tokens.Token.{Token}
use Rattle.gt_lex.specs.declared.tokens.Define.{Define}
use Rattle.gt_items.specs.declared.items.Item.{Item}
use Rattle.gt_items.specs.declared.items.Items.{Items}
use Rattle.gt_items.specs.declared.items.RawConstant.{RawConstant}
use Rattle.gt_search.specs.declared.lexeme.Lexeme.{Lexeme}
use Rattle.gt_search.specs.declared.search.End.{End}
use Rattle.gt_search.specs.declared.search.End.TheVariants.{Complete, Fails}
use Rattle.gt_search.specs.Lexemes.{lexemes_of}
use Rattle.gt_marked.specs.Outcome.{Outcome, Read, Stops, Ends}
use Rattle.gt_parse.specs.Reading.{is_marked, item_at}
use Rattle.gt_parse.specs.Unmarked.{unmarked_of, unmarked_at}
use Rattle.gt_parse.specs.Header.{AreItems, IsFirstFault, IsStop, GivesItems, GivesFault, Declare, faults_by, item_faults, end_faults}
use Rattle.gt_parse.specs.Answers.{items_by, item_items, earlier, first_of, HasItems, HasFault, IsAnswer}
use Rattle.gt_parse.proofs.First.{first_of-append, first_of-end, earlier-fails, Parted, Parted-first, first-Parted}
use Rattle.gt_search.proofs.Searched.{one_search}

-- ---- items without a fault

abbrev faults_of : List (List Lexeme) → List (ℕ × ℕ)
faults_of cut = flat_map item_faults cut

abbrev items_of : List (List Lexeme) → List Item
items_of cut = flat_map item_items cut

empty_reads : item_at [] ≡ Ends → ⊥
unfolding item_at is_marked unmarked_at
empty_reads e = let no : Read (unmarked_of []) [] ≡ Ends = e in cc

declares_by : (one : List Lexeme) (others : List (List Lexeme)) (o : Outcome (Option Item)) → item_at one ≡ o → first_of (faults_by one o ++ faults_of others) ≡ Complete
    → (first_of (faults_of others) ≡ Complete → Declare others (items_of others)) → Declare (one ∷ others) (items_by o ++ items_of others)
declares_by one others (Read (Some found) following) e none rest = inl (found, following, items_of others, e, refl, rest none)
declares_by one others (Read None following) e none rest = inr (following, e, rest none)
declares_by one others (Stops number at) e none rest = absurd (earlier-fails number at (first_of (faults_of others)) none)
declares_by [] others Ends e none rest = absurd (empty_reads e)
declares_by (t ∷ ts) others Ends e none rest = absurd (earlier-fails _ _ (first_of (faults_of others)) none)

declares : (cut : List (List Lexeme)) → first_of (faults_of cut) ≡ Complete → Declare cut (items_of cut)
declares [] none = refl
declares (one ∷ others) none = declares_by one others (item_at one) refl none (declares others)

-- what items declare is what was read, and there is no fault
record ReadSo (cut : List (List Lexeme)) (items : List Item) : Type 0 where
  none : first_of (faults_of cut) ≡ Complete
  are : items ≡ items_of cut

declared : (cut : List (List Lexeme)) (items : List Item) → Declare cut items → ReadSo cut items
declared [] items e = record { none = refl; are = e }
declared (one ∷ others) items (inl (found, following, rest, e, is, more)) =
    let so : ReadSo others rest = declared others rest more in
    record {
      none = ap (λ (o : Outcome (Option Item)). first_of (faults_by one o ++ faults_of others)) e ∙ so.none;
      are = is ∙ ap (λ (items : List Item). found ∷ items) so.are ∙ sym (ap (λ (o : Outcome (Option Item)). items_by o ++ items_of others) e);
    }
declared (one ∷ others) items (inr (following, e, more)) =
    let so : ReadSo others items = declared others items more in
    record {
      none = ap (λ (o : Outcome (Option Item)). first_of (faults_by one o ++ faults_of others)) e ∙ so.none;
      are = so.are ∙ sym (ap (λ (o : Outcome (Option Item)). items_by o ++ items_of others) e);
    }

-- ---- what is answered is so

all_first : (cut : List (List Lexeme)) (end : End) → first_of (faults_of cut ++ end_faults end) ≡ earlier (first_of (faults_of cut)) end
all_first cut end = first_of-append (faults_of cut) (end_faults end) ∙ ap (earlier (first_of (faults_of cut))) (first_of-end end)

first_fault : (text : List ℕ) (tokens : List Token) (number at : ℕ) → HasFault text tokens number at → IsFirstFault text tokens number at
first_fault text tokens number at h =
    let p : Parted (faults_of h.cut ++ end_faults h.end) number at = first-Parted (faults_of h.cut ++ end_faults h.end) number at (all_first h.cut h.end ∙ h.first) in
    record {
      cut = h.cut;
      end = h.end;
      before = p.before;
      after = p.after;
      searched = h.searched;
      among = p.is;
      earlier = All-from_recursion (λ fault. at < fault.1) p.before p.earlier;
      later = All-from_recursion (λ fault. at ≤ fault.1) p.after p.later;
    }

has_fault : (text : List ℕ) (tokens : List Token) (number at : ℕ) → IsFirstFault text tokens number at → HasFault text tokens number at
has_fault text tokens number at f = record {
  cut = f.cut;
  end = f.end;
  searched = f.searched;
  first =
      sym (all_first f.cut f.end)
      ∙ Parted-first (faults_of f.cut ++ end_faults f.end) number at
      (record { before = f.before; after = f.after; is = f.among; earlier = recursion_from_All (λ fault. at < fault.1) f.before f.earlier; later = recursion_from_All (λ fault. at ≤ fault.1) f.after f.later });
}

are_items : (text : List ℕ) (tokens : List Token) (defines : List Define) (items : Items) → HasItems text tokens defines items → AreItems text tokens defines items
are_items text tokens defines items h = record {
  cut = h.cut;
  searched = h.searched;
  declared = subst (λ (items : List Item). Declare h.cut items) (sym h.items_are) (declares h.cut h.no_fault);
  constants = h.constants_are;
}

has_items : (text : List ℕ) (tokens : List Token) (defines : List Define) (items : Items) → AreItems text tokens defines items → HasItems text tokens defines items
has_items text tokens defines items a =
    let so : ReadSo a.cut items.items = declared a.cut items.items a.declared in
    record { cut = a.cut; searched = a.searched; no_fault = so.none; items_are = so.are; constants_are = a.constants }

module _ (file : ℕ) (text : List ℕ) (tokens : List Token) (defines : List Define) where
  pub items_so : (answer : Result Items Stop) → IsAnswer file text tokens defines answer → IfOk answer (AreItems text tokens defines)
  items_so (Ok items) h = are_items text tokens defines items h
  items_so (Err stop) h = tt

  pub fault_so : (answer : Result Items Stop) → IsAnswer file text tokens defines answer → IfErr answer (IsStop file text tokens)
  fault_so (Ok items) h = tt
  fault_so (Err Memory) h = tt
  fault_so (Err (At fault)) h = (h.0, first_fault text tokens fault.number fault.at h.1)

  -- ---- what is so is answered

  no_two : (items : Items) (number at : ℕ) → HasItems text tokens defines items → HasFault text tokens number at → ⊥
  no_two items number at h f =
      let same = one_search (lexemes_of text tokens) h.cut f.cut Complete f.end h.searched f.searched in
      let first : earlier (first_of (faults_of h.cut)) Complete ≡ Fails number at =
      ap (λ (cut : List (List Lexeme)). earlier (first_of (faults_of cut)) Complete) same.0 ∙ ap (earlier (first_of (faults_of f.cut))) same.1 ∙ f.first in
      let none : earlier Complete Complete ≡ Fails number at = ap (λ (end : End). earlier end Complete) (sym h.no_fault) ∙ first in
      absurd cc

  same_items : (one other : Items) → one.items ≡ other.items → one.constants ≡ other.constants → one ≡ other
  same_items one other e f = ap (λ (items : List Item). record { items = items; constants = one.constants }) e ∙ ap (λ (constants : List RawConstant). record { items = other.items; constants = constants }) f

  one_answer : (one other : Items) → HasItems text tokens defines one → HasItems text tokens defines other → one ≡ other
  one_answer one other a b =
      let same = one_search (lexemes_of text tokens) a.cut b.cut Complete Complete a.searched b.searched in
      same_items one other (a.items_are ∙ ap items_of same.0 ∙ sym b.items_are) (a.constants_are ∙ sym b.constants_are)

  pub gives_items : (answer : Result Items Stop) → IsAnswer file text tokens defines answer → (items : Items) → AreItems text tokens defines items → GivesItems answer items
  gives_items (Ok found) h items a = one_answer found items h (has_items text tokens defines items a)
  gives_items (Err Memory) h items a = tt
  gives_items (Err (At fault)) h items a = no_two items fault.number fault.at (has_items text tokens defines items a) h.1

  same_fault : (one other : Fault) → one.file ≡ other.file → Fails one.number one.at ≡ Fails other.number other.at → one ≡ other
  same_fault one other e f =
      let number : one.number ≡ other.number = cc in
      let at : one.at ≡ other.at = cc in
      ap (λ (n : ℕ). record { number = n; file = one.file; at = one.at }) number ∙ ap (λ (n : ℕ). record { number = other.number; file = n; at = one.at }) e
      ∙ ap (λ (n : ℕ). record { number = other.number; file = other.file; at = n }) at

  one_fault : (one other : Fault) → one.file ≡ other.file → HasFault text tokens one.number one.at → HasFault text tokens other.number other.at → one ≡ other
  one_fault one other e a b =
      let same = one_search (lexemes_of text tokens) a.cut b.cut a.end b.end a.searched b.searched in
      same_fault one other e (sym a.first ∙ ap (λ (cut : List (List Lexeme)). earlier (first_of (faults_of cut)) a.end) same.0 ∙ ap (earlier (first_of (faults_of b.cut))) same.1 ∙ b.first)

  pub gives_fault : (answer : Result Items Stop) → IsAnswer file text tokens defines answer → (first : Fault) → first.file ≡ file → IsFirstFault text tokens first.number first.at → GivesFault answer first
  gives_fault (Ok found) h first e f = no_two found first.number first.at h (has_fault text tokens first.number first.at f)
  gives_fault (Err Memory) h first e f = tt
  gives_fault (Err (At fault)) h first e f = one_fault fault first (h.0 ∙ sym e) h.1 (has_fault text tokens first.number first.at f)
