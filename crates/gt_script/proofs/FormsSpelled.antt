-- Commands and lines are read as they are spelled.
use Rattle.std.proofs.Common.{◌≡◌, ℕ, Bool, true, false, not, cond, eqb, List, [], ◌∷◌, ◌++◌, Option, Some, None, refl, sym, ap, subst, ◌∙◌, inl, inr}
use Rattle.std.specs.Prelude.{◌&&◌, ◌||◌, codes}
use Rattle.std.specs.Option.{option_map}
use Rattle.std.specs.List.{list_all}
use Rattle.std.specs.Str.{bytes_eq, IsUtf8, is_utf8}
use Rattle.std.specs.Str.Lines.{strip_carriage_return}
use Rattle.std.proofs.lemmas.Bool.{and_parts, or_cases, both_ways, false_from_ne_true, eqb-true, not-true}
use Rattle.std.proofs.lemmas.Option.{cond_some, same_Some}
use Rattle.std.proofs.lemmas.Slice.Eq.{bytes_eq-Decides}
use Rattle.std.proofs.lemmas.Str.{is_utf8-from_IsUtf8, IsUtf8-from_is_utf8}
use Rattle.gt_script.specs.declared.command.Line.{Line}
use Rattle.gt_script.specs.declared.command.Command.{Command}
use Rattle.gt_script.specs.declared.command.Command.TheVariants.{New, Array, Text, Block, Set, Get, Drop, Print, Put, Find, Collect, CollectForce, Save, Load, Tables, Heap, Stats}
use Rattle.gt_script.specs.declared.command.TypeName.{TypeName}
use Rattle.gt_split.specs.declared.pieces.Piece.{Piece}
use Rattle.gt_split.specs.declared.pieces.Piece.TheVariants.{Plain, Quoted}
use Rattle.gt_split.specs.Texts.{◌>>=◌, following, is_blank}
use Rattle.gt_split.specs.Cutting.{without_blanks, words_within, words_of}
use Rattle.gt_script.specs.Values.{name_at, variable_at, type_at, given_at, file_at}
use Rattle.gt_split.specs.Numbers.{integer_at}
use Rattle.gt_script.specs.Paths.{path_at}
use Rattle.gt_script.specs.Commands.{plain_new_at, sized_new_at, new_at, array_at, text_at, block_at, set_at, get_at, drop_at, print_at, put_at, find_at, collect_at, save_at, load_at, tables_at, heap_at, stats_at, variable_command_at, place_command_at, command_at, form_at, line_of}
use Rattle.gt_script.specs.Scanning.{spoken_at, said_at, line_at}
use Rattle.gt_script.specs.Language.{IsNamed, IsVariable, IsTyped, AreWords, no_words, blank_first, word_first, is_plain, is_quoted, IsForm, is_new, is_new_sized, is_array, is_string, is_block, is_set, is_get, is_drop, is_print, is_put, is_find, is_collect, is_collect_force, is_save, is_load, is_tables, is_heap, is_stats, IsSpelled, is_comment_of, is_passed_over, IsLine, IsPassedOver, IsRefused}
use Rattle.gt_split.proofs.Options.{bind_some, map_or_some, passed, chosen}
use Rattle.gt_split.proofs.Cuts.{words_of-blanks}
use Rattle.gt_script.proofs.WordsSpelled.{words_taken, words_again}
use Rattle.gt_script.proofs.NamesSpelled.{after_taken, name_taken, name_again, variable_taken, variable_again, type_taken, type_again, file_taken, file_again}
use Rattle.gt_script.proofs.NumbersSpelled.{integer_taken, integer_again, value_taken, value_again, mapped_some}
use Rattle.gt_script.proofs.PathsSpelled.{path_taken, path_again}

-- ---- what is read is spelled so

new_taken : (words : List Piece) (c : Command) → new_at words ≡ Some c → IsForm (codes "new") words c
unfolding new_at plain_new_at sized_new_at
new_taken (Plain v ∷ Plain t ∷ []) c e =
    let var = bind_some (variable_at v) (λ var. type_at t >>= λ ty. Some (New var ty None)) c e in
    let ty = bind_some (type_at t) (λ ty. Some (New var.0 ty None)) c var.2 in
    subst (IsForm (codes "new") (Plain v ∷ Plain t ∷ [])) (same_Some (New var.0 ty.0 None) c ty.2) (is_new v t var.0 ty.0 (variable_taken v var.0 var.1) (type_taken t ty.0 ty.1))
new_taken (Plain v ∷ Plain t ∷ Plain i ∷ []) c e =
    let var = bind_some (variable_at v) (λ var. type_at t >>= λ ty. integer_at i >>= λ n. Some (New var ty (Some n))) c e in
    let ty = bind_some (type_at t) (λ ty. integer_at i >>= λ n. Some (New var.0 ty (Some n))) c var.2 in
    let n = bind_some (integer_at i) (λ n. Some (New var.0 ty.0 (Some n))) c ty.2 in
    subst (IsForm (codes "new") (Plain v ∷ Plain t ∷ Plain i ∷ [])) (same_Some (New var.0 ty.0 (Some n.0)) c n.2) (is_new_sized v t i var.0 ty.0 n.0 (variable_taken v var.0 var.1) (type_taken t ty.0 ty.1) (integer_taken i n.0 n.1))
new_taken _ c e = absurd cc

array_taken : (words : List Piece) (c : Command) → array_at words ≡ Some c → IsForm (codes "array") words c
unfolding array_at
array_taken (Plain v ∷ Plain t ∷ Plain i ∷ []) c e =
    let var = bind_some (variable_at v) (λ var. type_at t >>= λ ty. integer_at i >>= λ n. Some (Array var ty n)) c e in
    let ty = bind_some (type_at t) (λ ty. integer_at i >>= λ n. Some (Array var.0 ty n)) c var.2 in
    let n = bind_some (integer_at i) (λ n. Some (Array var.0 ty.0 n)) c ty.2 in
    subst (IsForm (codes "array") (Plain v ∷ Plain t ∷ Plain i ∷ [])) (same_Some (Array var.0 ty.0 n.0) c n.2) (is_array v t i var.0 ty.0 n.0 (variable_taken v var.0 var.1) (type_taken t ty.0 ty.1) (integer_taken i n.0 n.1))
array_taken _ c e = absurd cc

text_taken : (words : List Piece) (c : Command) → text_at words ≡ Some c → IsForm (codes "string") words c
unfolding text_at
text_taken (Plain v ∷ Quoted text ∷ []) c e =
    let var = bind_some (variable_at v) (λ var. Some (Text var text)) c e in
    subst (IsForm (codes "string") (Plain v ∷ Quoted text ∷ [])) (same_Some (Text var.0 text) c var.2) (is_string v text var.0 (variable_taken v var.0 var.1))
text_taken _ c e = absurd cc

block_taken : (words : List Piece) (c : Command) → block_at words ≡ Some c → IsForm (codes "block") words c
unfolding block_at
block_taken (Plain v ∷ Plain i ∷ []) c e =
    let var = bind_some (variable_at v) (λ var. integer_at i >>= λ n. Some (Block var n)) c e in
    let n = bind_some (integer_at i) (λ n. Some (Block var.0 n)) c var.2 in
    subst (IsForm (codes "block") (Plain v ∷ Plain i ∷ [])) (same_Some (Block var.0 n.0) c n.2) (is_block v i var.0 n.0 (variable_taken v var.0 var.1) (integer_taken i n.0 n.1))
block_taken _ c e = absurd cc

set_taken : (words : List Piece) (c : Command) → set_at words ≡ Some c → IsForm (codes "set") words c
unfolding set_at
set_taken (Plain p ∷ Plain g ∷ []) c e =
    let path = bind_some (path_at p) (λ path. given_at g >>= λ value. Some (Set path value)) c e in
    let value = bind_some (given_at g) (λ value. Some (Set path.0 value)) c path.2 in
    subst (IsForm (codes "set") (Plain p ∷ Plain g ∷ [])) (same_Some (Set path.0 value.0) c value.2) (is_set p g path.0 value.0 (path_taken p path.0 path.1) (value_taken g value.0 value.1))
set_taken _ c e = absurd cc

get_taken : (words : List Piece) (c : Command) → get_at words ≡ Some c → IsForm (codes "get") words c
unfolding get_at
get_taken (Plain v ∷ Plain p ∷ []) c e =
    let var = bind_some (variable_at v) (λ var. path_at p >>= λ path. Some (Get var path)) c e in
    let path = bind_some (path_at p) (λ path. Some (Get var.0 path)) c var.2 in
    subst (IsForm (codes "get") (Plain v ∷ Plain p ∷ [])) (same_Some (Get var.0 path.0) c path.2) (is_get v p var.0 path.0 (variable_taken v var.0 var.1) (path_taken p path.0 path.1))
get_taken _ c e = absurd cc

drop_taken : (words : List Piece) (c : Command) → drop_at words ≡ Some c → IsForm (codes "drop") words c
unfolding drop_at
drop_taken (Plain v ∷ []) c e =
    let var = bind_some (variable_at v) (λ var. Some (Drop var)) c e in
    subst (IsForm (codes "drop") (Plain v ∷ [])) (same_Some (Drop var.0) c var.2) (is_drop v var.0 (variable_taken v var.0 var.1))
drop_taken _ c e = absurd cc

print_taken : (words : List Piece) (c : Command) → print_at words ≡ Some c → IsForm (codes "print") words c
unfolding print_at
print_taken (Plain p ∷ []) c e =
    let path = bind_some (path_at p) (λ path. Some (Print path)) c e in
    subst (IsForm (codes "print") (Plain p ∷ [])) (same_Some (Print path.0) c path.2) (is_print p path.0 (path_taken p path.0 path.1))
print_taken _ c e = absurd cc

put_taken : (words : List Piece) (c : Command) → put_at words ≡ Some c → IsForm (codes "put") words c
unfolding put_at
put_taken (Plain a ∷ Plain k ∷ Plain v ∷ []) c e =
    let cache = bind_some (name_at a) (λ cache. variable_at k >>= λ key. variable_at v >>= λ value. Some (Put cache key value)) c e in
    let key = bind_some (variable_at k) (λ key. variable_at v >>= λ value. Some (Put cache.0 key value)) c cache.2 in
    let value = bind_some (variable_at v) (λ value. Some (Put cache.0 key.0 value)) c key.2 in
    subst (IsForm (codes "put") (Plain a ∷ Plain k ∷ Plain v ∷ [])) (same_Some (Put cache.0 key.0 value.0) c value.2) (is_put a k v cache.0 key.0 value.0 (name_taken a cache.0 cache.1) (variable_taken k key.0 key.1) (variable_taken v value.0 value.1))
put_taken _ c e = absurd cc

find_taken : (words : List Piece) (c : Command) → find_at words ≡ Some c → IsForm (codes "find") words c
unfolding find_at
find_taken (Plain a ∷ Plain k ∷ []) c e =
    let cache = bind_some (name_at a) (λ cache. variable_at k >>= λ key. Some (Find cache key)) c e in
    let key = bind_some (variable_at k) (λ key. Some (Find cache.0 key)) c cache.2 in
    subst (IsForm (codes "find") (Plain a ∷ Plain k ∷ [])) (same_Some (Find cache.0 key.0) c key.2) (is_find a k cache.0 key.0 (name_taken a cache.0 cache.1) (variable_taken k key.0 key.1))
find_taken _ c e = absurd cc

save_taken : (words : List Piece) (c : Command) → save_at words ≡ Some c → IsForm (codes "save") words c
unfolding save_at
save_taken (Quoted f ∷ Plain i ∷ []) c e =
    let file = bind_some (file_at f) (λ file. integer_at i >>= λ page. Some (Save file page)) c e in
    let page = bind_some (integer_at i) (λ page. Some (Save file.0 page)) c file.2 in
    subst (IsForm (codes "save") (Quoted f ∷ Plain i ∷ [])) (same_Some (Save file.0 page.0) c page.2) (is_save f i file.0 page.0 (file_taken f file.0 file.1) (integer_taken i page.0 page.1))
save_taken _ c e = absurd cc

load_taken : (words : List Piece) (c : Command) → load_at words ≡ Some c → IsForm (codes "load") words c
unfolding load_at
load_taken (Quoted f ∷ []) c e =
    let file = bind_some (file_at f) (λ file. Some (Load file)) c e in
    subst (IsForm (codes "load") (Quoted f ∷ [])) (same_Some (Load file.0) c file.2) (is_load f file.0 (file_taken f file.0 file.1))
load_taken _ c e = absurd cc

tables_taken : (words : List Piece) (c : Command) → tables_at words ≡ Some c → IsForm (codes "tables") words c
unfolding tables_at
tables_taken [] c e = subst (IsForm (codes "tables") []) (same_Some Tables c e) is_tables
tables_taken _ c e = absurd cc

heap_taken : (words : List Piece) (c : Command) → heap_at words ≡ Some c → IsForm (codes "heap") words c
unfolding heap_at
heap_taken [] c e = subst (IsForm (codes "heap") []) (same_Some Heap c e) is_heap
heap_taken _ c e = absurd cc

stats_taken : (words : List Piece) (c : Command) → stats_at words ≡ Some c → IsForm (codes "stats") words c
unfolding stats_at
stats_taken [] c e = subst (IsForm (codes "stats") []) (same_Some Stats c e) is_stats
stats_taken _ c e = absurd cc

collect_taken : (words : List Piece) (c : Command) → collect_at words ≡ Some c → IsForm (codes "collect") words c
unfolding collect_at
collect_taken [] c e = subst (IsForm (codes "collect") []) (same_Some Collect c e) is_collect
collect_taken (Plain word ∷ []) c e =
    let g = cond_some (bytes_eq word (codes "force")) CollectForce c e in
    let here : IsForm (codes "collect") (Plain word ∷ []) CollectForce =
    subst (λ (w : List ℕ). IsForm (codes "collect") (Plain w ∷ []) CollectForce) (sym ((bytes_eq-Decides word (codes "force")).0 g.0)) is_collect_force in
    subst (IsForm (codes "collect") (Plain word ∷ [])) g.1 here
collect_taken _ c e = absurd cc

-- the first word is this one, or another
verb_case : (literal verb : List ℕ) (words : List Piece) (c : Command) (here other : Option Command) → (here ≡ Some c → IsForm literal words c) → (other ≡ Some c → IsForm verb words c)
    → cond (bytes_eq verb literal) here other ≡ Some c → IsForm verb words c
verb_case literal verb words c here other take_here take_other e = elim (chosen (bytes_eq verb literal) here other c e) [
  | inl g ↦ subst (λ (v : List ℕ). IsForm v words c) (sym ((bytes_eq-Decides verb literal).0 g.0)) (take_here g.1)
  | inr g ↦ take_other g.1
]

variable_command_taken : (verb : List ℕ) (words : List Piece) (c : Command) → variable_command_at verb words ≡ Some c → IsForm verb words c
unfolding variable_command_at
variable_command_taken verb words c =
    verb_case (codes "new") verb words c (new_at words) (cond (bytes_eq verb (codes "array")) (array_at words) (cond (bytes_eq verb (codes "string")) (text_at words) (cond (bytes_eq verb (codes "block")) (block_at words) (cond (bytes_eq verb (codes "get")) (get_at words) (cond (bytes_eq verb (codes "drop")) (drop_at words) (None)))))) (new_taken words c)
    (
    verb_case (codes "array") verb words c (array_at words) (cond (bytes_eq verb (codes "string")) (text_at words) (cond (bytes_eq verb (codes "block")) (block_at words) (cond (bytes_eq verb (codes "get")) (get_at words) (cond (bytes_eq verb (codes "drop")) (drop_at words) (None))))) (array_taken words c)
    (
    verb_case (codes "string") verb words c (text_at words) (cond (bytes_eq verb (codes "block")) (block_at words) (cond (bytes_eq verb (codes "get")) (get_at words) (cond (bytes_eq verb (codes "drop")) (drop_at words) (None)))) (text_taken words c)
    (
    verb_case (codes "block") verb words c (block_at words) (cond (bytes_eq verb (codes "get")) (get_at words) (cond (bytes_eq verb (codes "drop")) (drop_at words) (None))) (block_taken words c)
    (
    verb_case (codes "get") verb words c (get_at words) (cond (bytes_eq verb (codes "drop")) (drop_at words) (None)) (get_taken words c)
    (
    verb_case (codes "drop") verb words c (drop_at words) (None) (drop_taken words c)
    (
    λ e. absurd cc
    ))))))

place_command_taken : (verb : List ℕ) (words : List Piece) (c : Command) → place_command_at verb words ≡ Some c → IsForm verb words c
unfolding place_command_at
place_command_taken verb words c =
    verb_case (codes "set") verb words c (set_at words) (cond (bytes_eq verb (codes "print")) (print_at words) (cond (bytes_eq verb (codes "put")) (put_at words) (cond (bytes_eq verb (codes "find")) (find_at words) (variable_command_at verb words)))) (set_taken words c)
    (
    verb_case (codes "print") verb words c (print_at words) (cond (bytes_eq verb (codes "put")) (put_at words) (cond (bytes_eq verb (codes "find")) (find_at words) (variable_command_at verb words))) (print_taken words c)
    (
    verb_case (codes "put") verb words c (put_at words) (cond (bytes_eq verb (codes "find")) (find_at words) (variable_command_at verb words)) (put_taken words c)
    (
    verb_case (codes "find") verb words c (find_at words) (variable_command_at verb words) (find_taken words c)
    (
    variable_command_taken verb words c
    ))))

command_taken : (verb : List ℕ) (words : List Piece) (c : Command) → command_at verb words ≡ Some c → IsForm verb words c
unfolding command_at
command_taken verb words c =
    verb_case (codes "collect") verb words c (collect_at words) (cond (bytes_eq verb (codes "save")) (save_at words) (cond (bytes_eq verb (codes "load")) (load_at words) (cond (bytes_eq verb (codes "tables")) (tables_at words) (cond (bytes_eq verb (codes "heap")) (heap_at words) (cond (bytes_eq verb (codes "stats")) (stats_at words) (place_command_at verb words)))))) (collect_taken words c)
    (
    verb_case (codes "save") verb words c (save_at words) (cond (bytes_eq verb (codes "load")) (load_at words) (cond (bytes_eq verb (codes "tables")) (tables_at words) (cond (bytes_eq verb (codes "heap")) (heap_at words) (cond (bytes_eq verb (codes "stats")) (stats_at words) (place_command_at verb words))))) (save_taken words c)
    (
    verb_case (codes "load") verb words c (load_at words) (cond (bytes_eq verb (codes "tables")) (tables_at words) (cond (bytes_eq verb (codes "heap")) (heap_at words) (cond (bytes_eq verb (codes "stats")) (stats_at words) (place_command_at verb words)))) (load_taken words c)
    (
    verb_case (codes "tables") verb words c (tables_at words) (cond (bytes_eq verb (codes "heap")) (heap_at words) (cond (bytes_eq verb (codes "stats")) (stats_at words) (place_command_at verb words))) (tables_taken words c)
    (
    verb_case (codes "heap") verb words c (heap_at words) (cond (bytes_eq verb (codes "stats")) (stats_at words) (place_command_at verb words)) (heap_taken words c)
    (
    verb_case (codes "stats") verb words c (stats_at words) (place_command_at verb words) (stats_taken words c)
    (
    place_command_taken verb words c
    ))))))

-- the words of a line
record LineTaken (words : List Piece) (line : Line) : Type 0 where
  verb : List ℕ
  after_it : List Piece
  form : IsForm verb after_it line.command
  words_are : words ≡ Plain (cond line.quiet (codes "@") [] ++ verb) ∷ after_it

told_taken : (quiet : Bool) (words : List Piece) (word verb : List ℕ) (line : Line) → word ≡ cond quiet (codes "@") [] ++ verb → form_at quiet words verb ≡ Some line → LineTaken (Plain word ∷ words) line
told_taken quiet words word verb line is e =
    let c = mapped_some (λ command. record { quiet = quiet; command = command }) (command_at verb words) line e in
    let here : LineTaken (Plain word ∷ words) (record { quiet = quiet; command = c.0 }) = record {
      verb = verb;
      after_it = words;
      form = command_taken verb words c.0 c.1;
      words_are = ap (λ (w : List ℕ). Plain w ∷ words) is;
    } in
    subst (λ (l : Line). LineTaken (Plain word ∷ words) l) c.2 here

line_taken : (words : List Piece) (line : Line) → line_of words ≡ Some line → LineTaken words line
unfolding line_of
line_taken (Plain word ∷ words) line e =
    elim (map_or_some (following (codes "@") word) (form_at true words) (form_at false words word) line e) [
      | inl g ↦ told_taken true words word g.0 line (after_taken (codes "@") word g.0 g.1) g.2
      | inr g ↦ told_taken false words word word line refl g.1
    ]
line_taken _ line e = absurd cc

spoken_taken : (text : List ℕ) (line : Line) → spoken_at text ≡ Some line → IsSpelled text line
unfolding spoken_at
spoken_taken text line e =
    let words = bind_some (words_of text) (λ words. line_of words) line e in
    let taken = line_taken words.0 line words.2 in
    record {
      verb = taken.verb;
      words = taken.after_it;
      form = taken.form;
      spelled = subst (λ (ws : List Piece). AreWords text ws) taken.words_are (words_taken text words.0 words.1);
    }

pub said_taken : (text : List ℕ) (line : Line) → said_at text ≡ Some (Some line) → IsUtf8 text × IsSpelled text line
unfolding said_at
said_taken text line e =
    let g = cond_some_of (is_utf8 text) (cond (is_passed_over text) (Some None) (option_map Some (spoken_at text))) (Some line) e in
    let spoken = passed_by (is_passed_over text) (option_map Some (spoken_at text)) line g.1 in
    let l = mapped_some Some (spoken_at text) (Some line) spoken in
    (IsUtf8-from_is_utf8 text g.0, subst (λ (x : Line). IsSpelled text x) (same_Some l.0 line l.2) (spoken_taken text l.0 l.1))
  where
    cond_some_of : (b : Bool) (o : Option (Option Line)) (y : Option Line) → cond b o None ≡ Some y → (b ≡ true) × (o ≡ Some y)
    cond_some_of true o y e = (refl, e)
    cond_some_of false o y e = absurd cc

    passed_by : (b : Bool) (o : Option (Option Line)) (y : Line) → cond b (Some None) o ≡ Some (Some y) → o ≡ Some (Some y)
    passed_by true o y e = absurd cc
    passed_by false o y e = e

-- ---- what is spelled so is read

variable_is : (text name : List ℕ) → IsVariable text name → variable_at text ≡ Some name
variable_is text name h = ap variable_at h.1 ∙ variable_again name h.0

named_is : (text name : List ℕ) → IsNamed text name → name_at text ≡ Some name
named_is text name h = ap name_at h.1 ∙ name_again name h.0

typed_is : (text : List ℕ) (ty : TypeName) → IsTyped text ty → type_at text ≡ Some ty
typed_is text ty h = ap type_at h.1 ∙ type_again ty h.0

command_again : {verb : List ℕ} {words : List Piece} {c : Command} → IsForm verb words c → command_at verb words ≡ Some c
unfolding command_at place_command_at variable_command_at plain_new_at sized_new_at new_at array_at text_at block_at set_at get_at drop_at print_at put_at find_at collect_at save_at load_at tables_at heap_at stats_at
command_again (is_new v t var ty h k) = rw (variable_is v var h, typed_is t ty k) refl
command_again (is_new_sized v t i var ty n h k l) = rw (variable_is v var h, typed_is t ty k, integer_again l) refl
command_again (is_array v t i var ty n h k l) = rw (variable_is v var h, typed_is t ty k, integer_again l) refl
command_again (is_string v text var h) = rw (variable_is v var h) refl
command_again (is_block v i var n h l) = rw (variable_is v var h, integer_again l) refl
command_again (is_set p g path value h k) = rw (path_again p path h, value_again k) refl
command_again (is_get v p var path h k) = rw (variable_is v var h, path_again p path k) refl
command_again (is_drop v var h) = rw (variable_is v var h) refl
command_again (is_print p path h) = rw (path_again p path h) refl
command_again (is_put a k v cache key value h l m) = rw (named_is a cache h, variable_is k key l, variable_is v value m) refl
command_again (is_find a k cache key h l) = rw (named_is a cache h, variable_is k key l) refl
command_again is_collect = refl
command_again is_collect_force = refl
command_again (is_save f i file page h l) = rw (file_again f file h, integer_again l) refl
command_again (is_load f file h) = rw (file_again f file h) refl
command_again is_tables = refl
command_again is_heap = refl
command_again is_stats = refl

-- no command begins with @
unmarked : {verb : List ℕ} {words : List Piece} {c : Command} → IsForm verb words c → following (codes "@") verb ≡ None
unfolding following
unmarked (is_new v t var ty h k) = refl
unmarked (is_new_sized v t i var ty n h k l) = refl
unmarked (is_array v t i var ty n h k l) = refl
unmarked (is_string v text var h) = refl
unmarked (is_block v i var n h l) = refl
unmarked (is_set p g path value h k) = refl
unmarked (is_get v p var path h k) = refl
unmarked (is_drop v var h) = refl
unmarked (is_print p path h) = refl
unmarked (is_put a k v cache key value h l m) = refl
unmarked (is_find a k cache key h l) = refl
unmarked is_collect = refl
unmarked is_collect_force = refl
unmarked (is_save f i file page h l) = refl
unmarked (is_load f file h) = refl
unmarked is_tables = refl
unmarked is_heap = refl
unmarked is_stats = refl

-- whether the first word begins with #
abbrev first_hash : List Piece → Bool
first_hash (Plain (c ∷ cs) ∷ words) = eqb c 35
first_hash _ = false

unhashed : {verb : List ℕ} {words : List Piece} {c : Command} (after_it : List Piece) → IsForm verb words c → first_hash (Plain verb ∷ after_it) ≡ false
unhashed after_it (is_new v t var ty h k) = refl
unhashed after_it (is_new_sized v t i var ty n h k l) = refl
unhashed after_it (is_array v t i var ty n h k l) = refl
unhashed after_it (is_string v text var h) = refl
unhashed after_it (is_block v i var n h l) = refl
unhashed after_it (is_set p g path value h k) = refl
unhashed after_it (is_get v p var path h k) = refl
unhashed after_it (is_drop v var h) = refl
unhashed after_it (is_print p path h) = refl
unhashed after_it (is_put a k v cache key value h l m) = refl
unhashed after_it (is_find a k cache key h l) = refl
unhashed after_it is_collect = refl
unhashed after_it is_collect_force = refl
unhashed after_it (is_save f i file page h l) = refl
unhashed after_it (is_load f file h) = refl
unhashed after_it is_tables = refl
unhashed after_it is_heap = refl
unhashed after_it is_stats = refl

no_hash : {verb : List ℕ} {words : List Piece} {c : Command} (quiet : Bool) (after_it : List Piece) → IsForm verb words c → first_hash (Plain (cond quiet (codes "@") [] ++ verb) ∷ after_it) ≡ false
no_hash true after_it form = refl
no_hash false after_it form = unhashed after_it form

marked : (verb : List ℕ) (words : List Piece) (c : Command) → command_at verb words ≡ Some c → line_of (Plain (codes "@" ++ verb) ∷ words) ≡ Some (record { quiet = true; command = c })
unfolding line_of following
marked verb words c e = rw e refl

line_again : (quiet : Bool) (verb : List ℕ) (words : List Piece) (c : Command) → IsForm verb words c → line_of (Plain (cond quiet (codes "@") [] ++ verb) ∷ words) ≡ Some (record { quiet = quiet; command = c })
unfolding line_of
line_again true verb words c form = marked verb words c (command_again form)
line_again false verb words c form = rw (unmarked form, command_again form) refl

-- ---- a line of a command is passed over by no rule

blank_here : (c : ℕ) (cs : List ℕ) (b : Bool) → is_blank c ≡ b → (b && list_all is_blank cs) ≡ true → (list_all is_blank cs ≡ true → without_blanks cs ≡ []) → without_blanks (c ∷ cs) ≡ []
unfolding without_blanks
blank_here c cs true e h more =
    let next : without_blanks (c ∷ cs) ≡ without_blanks cs = rw e refl in
    next ∙ more h
blank_here c cs false e h more = absurd cc

all_blank : (text : List ℕ) → list_all is_blank text ≡ true → without_blanks text ≡ []
unfolding without_blanks
all_blank [] h = refl
all_blank (c ∷ cs) h = blank_here c cs (is_blank c) refl h (all_blank cs)

not_blank : (text : List ℕ) (word : Piece) (words : List Piece) → words_of text ≡ Some (word ∷ words) → list_all is_blank text ≡ false
unfolding words_within
not_blank text word words e =
    false_from_ne_true (list_all is_blank text) (λ h.
    let none : words_of text ≡ Some [] = sym (words_of-blanks text) ∙ ap words_of (all_blank text h) in
    let clash : Some [] ≡ Some (word ∷ words) = sym none ∙ e in
    absurd cc)

blank_no_hash : (c : ℕ) → is_blank c ≡ true → eqb c 35 ≡ false
unfolding is_blank
blank_no_hash c e = elim (or_cases (eqb c 32) (eqb c 9) e) [ inl space ↦ ap (λ d. eqb d 35) (eqb-true c 32 space) | inr tab ↦ ap (λ d. eqb d 35) (eqb-true c 9 tab) ]

blank_comment : (c : ℕ) (rest : List ℕ) (b : Bool) → eqb c 32 ≡ b → is_blank c ≡ true → is_comment_of rest ≡ false → is_comment_of (c ∷ rest) ≡ false
unfolding is_comment_of
blank_comment c rest true e blank h = rw e h
blank_comment c rest false e blank h = rw e (blank_no_hash c blank)

no_space : (c : ℕ) → not (is_blank c) ≡ true → eqb c 32 ≡ false
unfolding is_blank
no_space c h = false_from_ne_true (eqb c 32) (λ e. both_ways (eqb c 32 || eqb c 9) (not-true (eqb c 32 || eqb c 9) h) (ap (λ b. b || eqb c 9) e))

no_comment : {text : List ℕ} {words : List Piece} → AreWords text words → first_hash words ≡ false → is_comment_of text ≡ false
unfolding is_comment_of
no_comment no_words h = refl
no_comment (blank_first {rest} c blank more) h = blank_comment c rest (eqb c 32) refl blank (no_comment more h)
no_comment (word_first _ _ (is_plain [] p) ends more) h = absurd p
no_comment (word_first _ _ (is_plain (c ∷ cs) p) ends more) h =
    let both = and_parts (not (is_blank c)) (list_all (λ d. not (is_blank d)) cs) p.1 in
    rw (no_space c both.0) h
no_comment (word_first _ _ (is_quoted inside bytes p) ends more) h = refl

pub said_again : (text : List ℕ) (line : Line) → IsUtf8 text → IsSpelled text line → said_at text ≡ Some (Some line)
unfolding said_at is_passed_over spoken_at
said_again text line utf8 h =
    let words = words_again h.spelled in
    let blank = not_blank text (Plain (cond line.quiet (codes "@") [] ++ h.verb)) h.words words in
    let comment = no_comment h.spelled (no_hash line.quiet h.words h.form) in
    rw (is_utf8-from_IsUtf8 text utf8, blank, comment, words, line_again line.quiet h.verb h.words line.command h.form) refl

-- ---- the lines of a script

pub line_is : (text : List ℕ) (line : Line) → line_at text ≡ Some (Some line) → IsLine text line
unfolding line_at
line_is text line e = said_taken (strip_carriage_return text) line e

pub line_reads : (text : List ℕ) (line : Line) → IsLine text line → line_at text ≡ Some (Some line)
unfolding line_at
line_reads text line h = said_again (strip_carriage_return text) line h.0 h.1

nothing_said : (utf8 passed : Bool) (spoken : Option Line) → cond utf8 (cond passed (Some None) (option_map Some spoken)) None ≡ Some None → (utf8 ≡ true) × (passed ≡ true)
nothing_said true true spoken e = (refl, refl)
nothing_said true false (Some line) e =
    let clash : Some line ≡ None = same_Some (Some line) None e in
    absurd cc
nothing_said true false None e = absurd cc
nothing_said false passed spoken e = absurd cc

pub passed_is : (text : List ℕ) → line_at text ≡ Some None → IsPassedOver text
unfolding line_at said_at
passed_is text e =
    let said = strip_carriage_return text in
    let g = nothing_said (is_utf8 said) (is_passed_over said) (spoken_at said) e in
    (IsUtf8-from_is_utf8 said g.0, g.1)

pub passed_reads : (text : List ℕ) → IsPassedOver text → line_at text ≡ Some None
unfolding line_at said_at
passed_reads text h = rw (is_utf8-from_IsUtf8 (strip_carriage_return text) h.0, h.1) refl

pub refused_is : (text : List ℕ) → line_at text ≡ None → IsRefused text
refused_is text e = (
  λ passed. let clash : None ≡ Some None = sym e ∙ passed_reads text passed in absurd cc,
  λ line is. let clash : None ≡ Some (Some line) = sym e ∙ line_reads text line is in absurd cc,
)

pub refused_reads : (text : List ℕ) → IsRefused text → line_at text ≡ None
refused_reads text h = go (line_at text) refl
  where
    go : (what : Option (Option Line)) → line_at text ≡ what → what ≡ None
    go None e = refl
    go (Some None) e = absurd (h.0 (passed_is text e))
    go (Some (Some line)) e = absurd (h.1 line (line_is text line e))
