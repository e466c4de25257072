-- A line of more than four words is none.
use Rattle.std.proofs.Common.{◌≡◌, ℕ, Bool, true, false, cond, List, [], ◌∷◌, length, Option, Some, None, refl, sym, ap}
use Rattle.std.specs.Prelude.{nat_le}
use Rattle.std.specs.Option.{option_map, option_map_or}
use Rattle.gt_script.specs.declared.command.Command.{Command}
use Rattle.gt_split.specs.declared.pieces.Piece.{Piece}
use Rattle.gt_split.specs.declared.pieces.Piece.TheVariants.{Plain, Quoted}
use Rattle.gt_split.specs.Texts.{◌>>=◌}
use Rattle.gt_split.specs.Cutting.{words_of, few, few_of}
use Rattle.gt_script.specs.Commands.{new_at, array_at, text_at, block_at, set_at, get_at, drop_at, print_at, put_at, find_at, collect_at, save_at, load_at, tables_at, heap_at, stats_at, variable_command_at, place_command_at, command_at, form_at, line_of}
use Rattle.gt_script.specs.Scanning.{spoken_at}

-- ---- no form has four words after its first

neither : {A : Type 0} (b : Bool) (x y : Option A) → x ≡ None → y ≡ None → cond b x y ≡ None
neither true x y e f = e
neither false x y e f = f

module _ (d : Piece) (rest : List Piece) where
  no_collect : (a b c : Piece) → collect_at (a ∷ b ∷ c ∷ d ∷ rest) ≡ None
  unfolding collect_at
  no_collect (Plain v) b c = refl
  no_collect (Quoted v) b c = refl

  no_load : (a b c : Piece) → load_at (a ∷ b ∷ c ∷ d ∷ rest) ≡ None
  unfolding load_at
  no_load (Plain v) b c = refl
  no_load (Quoted v) b c = refl

  no_drop : (a b c : Piece) → drop_at (a ∷ b ∷ c ∷ d ∷ rest) ≡ None
  unfolding drop_at
  no_drop (Plain v) b c = refl
  no_drop (Quoted v) b c = refl

  no_print : (a b c : Piece) → print_at (a ∷ b ∷ c ∷ d ∷ rest) ≡ None
  unfolding print_at
  no_print (Plain v) b c = refl
  no_print (Quoted v) b c = refl

  no_save : (a b c : Piece) → save_at (a ∷ b ∷ c ∷ d ∷ rest) ≡ None
  unfolding save_at
  no_save (Plain v) b c = refl
  no_save (Quoted v) (Plain w) c = refl
  no_save (Quoted v) (Quoted w) c = refl

  no_text : (a b c : Piece) → text_at (a ∷ b ∷ c ∷ d ∷ rest) ≡ None
  unfolding text_at
  no_text (Quoted v) b c = refl
  no_text (Plain v) (Plain w) c = refl
  no_text (Plain v) (Quoted w) c = refl

  no_block : (a b c : Piece) → block_at (a ∷ b ∷ c ∷ d ∷ rest) ≡ None
  unfolding block_at
  no_block (Quoted v) b c = refl
  no_block (Plain v) (Plain w) c = refl
  no_block (Plain v) (Quoted w) c = refl

  no_set : (a b c : Piece) → set_at (a ∷ b ∷ c ∷ d ∷ rest) ≡ None
  unfolding set_at
  no_set (Quoted v) b c = refl
  no_set (Plain v) (Plain w) c = refl
  no_set (Plain v) (Quoted w) c = refl

  no_get : (a b c : Piece) → get_at (a ∷ b ∷ c ∷ d ∷ rest) ≡ None
  unfolding get_at
  no_get (Quoted v) b c = refl
  no_get (Plain v) (Plain w) c = refl
  no_get (Plain v) (Quoted w) c = refl

  no_find : (a b c : Piece) → find_at (a ∷ b ∷ c ∷ d ∷ rest) ≡ None
  unfolding find_at
  no_find (Quoted v) b c = refl
  no_find (Plain v) (Plain w) c = refl
  no_find (Plain v) (Quoted w) c = refl

  no_new : (a b c : Piece) → new_at (a ∷ b ∷ c ∷ d ∷ rest) ≡ None
  unfolding new_at
  no_new (Quoted v) b c = refl
  no_new (Plain v) (Quoted w) c = refl
  no_new (Plain v) (Plain w) (Plain x) = refl
  no_new (Plain v) (Plain w) (Quoted x) = refl

  no_array : (a b c : Piece) → array_at (a ∷ b ∷ c ∷ d ∷ rest) ≡ None
  unfolding array_at
  no_array (Quoted v) b c = refl
  no_array (Plain v) (Quoted w) c = refl
  no_array (Plain v) (Plain w) (Plain x) = refl
  no_array (Plain v) (Plain w) (Quoted x) = refl

  no_put : (a b c : Piece) → put_at (a ∷ b ∷ c ∷ d ∷ rest) ≡ None
  unfolding put_at
  no_put (Quoted v) b c = refl
  no_put (Plain v) (Quoted w) c = refl
  no_put (Plain v) (Plain w) (Plain x) = refl
  no_put (Plain v) (Plain w) (Quoted x) = refl

  no_tables : (a b c : Piece) → tables_at (a ∷ b ∷ c ∷ d ∷ rest) ≡ None
  unfolding tables_at
  no_tables a b c = refl

  no_heap : (a b c : Piece) → heap_at (a ∷ b ∷ c ∷ d ∷ rest) ≡ None
  unfolding heap_at
  no_heap a b c = refl

  no_stats : (a b c : Piece) → stats_at (a ∷ b ∷ c ∷ d ∷ rest) ≡ None
  unfolding stats_at
  no_stats a b c = refl

  no_variable_command : (verb : List ℕ) (a b c : Piece) → variable_command_at verb (a ∷ b ∷ c ∷ d ∷ rest) ≡ None
  unfolding variable_command_at
  no_variable_command verb a b c =
      neither _ _ _ (no_new a b c) (neither _ _ _ (no_array a b c) (neither _ _ _ (no_text a b c)
      (neither _ _ _ (no_block a b c) (neither _ _ _ (no_get a b c) (neither _ _ _ (no_drop a b c) refl)))))

  no_place_command : (verb : List ℕ) (a b c : Piece) → place_command_at verb (a ∷ b ∷ c ∷ d ∷ rest) ≡ None
  unfolding place_command_at
  no_place_command verb a b c =
      neither _ _ _ (no_set a b c) (neither _ _ _ (no_print a b c) (neither _ _ _ (no_put a b c) (neither _ _ _ (no_find a b c) (no_variable_command verb a b c))))

  no_command : (verb : List ℕ) (a b c : Piece) → command_at verb (a ∷ b ∷ c ∷ d ∷ rest) ≡ None
  unfolding command_at
  no_command verb a b c =
      neither _ _ _ (no_collect a b c) (neither _ _ _ (no_save a b c) (neither _ _ _ (no_load a b c)
      (neither _ _ _ (no_tables a b c) (neither _ _ _ (no_heap a b c) (neither _ _ _ (no_stats a b c) (no_place_command verb a b c))))))

  no_told : (quiet : Bool) (a b c : Piece) (verb : List ℕ) → form_at quiet (a ∷ b ∷ c ∷ d ∷ rest) verb ≡ None
  no_told quiet a b c verb = ap (option_map (λ (command : Command). record { quiet = quiet; command = command })) (no_command verb a b c)

  neither_told : (o : Option (List ℕ)) (a b c : Piece) (word : List ℕ)
      → option_map_or (form_at true (a ∷ b ∷ c ∷ d ∷ rest)) o (form_at false (a ∷ b ∷ c ∷ d ∷ rest) word) ≡ None
  neither_told (Some verb) a b c word = no_told true a b c verb
  neither_told None a b c word = no_told false a b c word

  no_line : (first a b c : Piece) → line_of (first ∷ a ∷ b ∷ c ∷ d ∷ rest) ≡ None
  unfolding line_of
  no_line (Plain word) a b c = neither_told _ a b c word
  no_line (Quoted word) a b c = refl

-- ---- reading four words is enough

long_line : (words : List Piece) → nat_le (length words) 4 ≡ false → line_of words ≡ None
long_line [] e = absurd cc
long_line (a ∷ []) e = absurd cc
long_line (a ∷ b ∷ []) e = absurd cc
long_line (a ∷ b ∷ c ∷ []) e = absurd cc
long_line (a ∷ b ∷ c ∷ d ∷ []) e = absurd cc
long_line (first ∷ a ∷ b ∷ c ∷ d ∷ rest) e = no_line d rest first a b c

few_line : (words : List Piece) (b : Bool) → nat_le (length words) 4 ≡ b → (cond b (Some words) None >>= line_of) ≡ line_of words
few_line words true e = refl
few_line words false e = sym (long_line words e)

few_lines : (found : Option (List Piece)) → (few found >>= line_of) ≡ (found >>= line_of)
few_lines None = refl
few_lines (Some words) = few_line words (nat_le (length words) 4) refl

-- a line by its words, where they are few
pub spoken_few : (text : List ℕ) → (few_of text >>= line_of) ≡ spoken_at text
unfolding spoken_at
spoken_few text = few_lines (words_of text)
