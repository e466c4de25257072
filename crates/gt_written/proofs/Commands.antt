-- The lines of a generated script, each as it is spelled.
use Rattle.std.proofs.Common.{ℕ, ◌<◌, ◌^◌, List, [], ◌∷◌, ◌++◌, refl, subst, ◌∙◌, arith}
use lib.Utf8.{encode}
use Rattle.std.specs.Prelude.{codes, pos}
use Rattle.std.proofs.lemmas.List.{append-nil}
use Rattle.std.proofs.lemmas.Bool.{and_from}
use Rattle.std.proofs.lemmas.List.Folds.{list_all-append}
use Rattle.unicode_ident.proofs.Computing.{unicode_ident}
use Rattle.gt_text.specs.Identifier.{starts_identifier_of, continues_identifier_of}
use Rattle.gt_digits.specs.Digits.{decimal}
use Rattle.gt_script.specs.declared.command.Command.{Command}
use Rattle.gt_script.specs.declared.command.Command.TheVariants.{CollectForce, Heap, Stats}
use Rattle.gt_script.specs.declared.command.Given.TheVariants.{Integer, Var}
use Rattle.gt_split.specs.declared.pieces.Piece.{Piece}
use Rattle.gt_split.specs.declared.pieces.Piece.TheVariants.{Plain}
use Rattle.gt_split.specs.Texts.{is_blank}
use Rattle.gt_script.specs.Language.{IsName, IsPlain, IsTyped, is_variable, is_integer, is_positive, is_decimal, field_first, no_steps, IsPath, AreWords, no_words, blank_first, word_first, is_plain, IsForm, is_new, is_set, is_get, is_collect_force, is_heap, is_stats, IsSpelled}
use Rattle.gt_written.specs.Lines.{quiet_line, loud_line, node_type, field_path, head_path, new_line, key_line, next_line, other_line, head_line, get_line}
use Rattle.gt_written.proofs.Adding.{is_inner, Adds, adds_line}
use Rattle.gt_written.proofs.Decimals.{decimal_inner, decimal_plain, decimal_is}

-- ---- names, variables and paths

name_n : IsName (codes "n")
unfolding starts_identifier_of continues_identifier_of unicode_ident
name_n = (refl, refl, refl)

name_p : IsName (codes "p")
unfolding starts_identifier_of continues_identifier_of unicode_ident
name_p = (refl, refl, refl)

name_w : IsName (codes "w")
unfolding starts_identifier_of continues_identifier_of unicode_ident
name_w = (refl, refl, refl)

name_node : IsName (codes "node")
unfolding starts_identifier_of continues_identifier_of unicode_ident
name_node = (refl, refl, refl)

name_head : IsName (codes "head")
unfolding starts_identifier_of continues_identifier_of unicode_ident
name_head = (refl, refl, refl)

name_key : IsName (codes "key")
unfolding starts_identifier_of continues_identifier_of unicode_ident
name_key = (refl, refl, refl)

name_next : IsName (codes "next")
unfolding starts_identifier_of continues_identifier_of unicode_ident
name_next = (refl, refl, refl)

name_other : IsName (codes "other")
unfolding starts_identifier_of continues_identifier_of unicode_ident
name_other = (refl, refl, refl)

node_typed : IsTyped (codes "node") node_type
unfolding encode
node_typed = (name_node, refl)

key_path : IsPath (codes "$n.key") (field_path (codes "n") (codes "key"))
unfolding encode
key_path = record { name = name_n; rest = codes ".key"; steps = field_first (codes "key") name_key no_steps; spelled = refl }

next_path : IsPath (codes "$n.next") (field_path (codes "n") (codes "next"))
unfolding encode
next_path = record { name = name_n; rest = codes ".next"; steps = field_first (codes "next") name_next no_steps; spelled = refl }

other_path : IsPath (codes "$w.other") (field_path (codes "w") (codes "other"))
unfolding encode
other_path = record { name = name_w; rest = codes ".other"; steps = field_first (codes "other") name_other no_steps; spelled = refl }

head_is : IsPath (codes "head") head_path
unfolding encode
head_is = record { name = name_head; rest = []; steps = no_steps; spelled = refl }

-- ---- words

one_word : (a : List ℕ) → IsPlain a → AreWords a (Plain a ∷ [])
one_word a h = subst (λ (text : List ℕ). AreWords text (Plain a ∷ [])) (append-nil a) (word_first a (Plain a) (is_plain a h) refl no_words)

more_words : (a rest : List ℕ) (words : List Piece) → IsPlain a → AreWords rest words → AreWords (a ++ 32 ∷ rest) (Plain a ∷ words)
unfolding is_blank
more_words a rest words h are = word_first a (Plain a) (is_plain a h) refl (blank_first 32 refl are)

-- a quiet line of three words, of which the first begins with @ (64)
three_words : (verb a b : List ℕ) (command : Command) → IsForm verb (Plain a ∷ Plain b ∷ []) command → IsPlain (64 ∷ verb) → IsPlain a → IsPlain b → IsSpelled ((64 ∷ verb) ++ 32 ∷ (a ++ 32 ∷ b)) (quiet_line command)
three_words verb a b command form first second third = record {
  verb = verb;
  words = Plain a ∷ Plain b ∷ [];
  form = form;
  spelled = more_words (64 ∷ verb) (a ++ 32 ∷ b) (Plain a ∷ Plain b ∷ []) first (more_words a b (Plain b ∷ []) second (one_word b third));
}

plain_new : IsPlain (codes "@new")
unfolding is_blank
plain_new = (λ e. omega (arith, e), refl)

plain_set : IsPlain (codes "@set")
unfolding is_blank
plain_set = (λ e. omega (arith, e), refl)

plain_get : IsPlain (codes "@get")
unfolding is_blank
plain_get = (λ e. omega (arith, e), refl)

-- ---- lines

-- @new $V node
pub n_adds : Adds (codes "@new $n node\n") (new_line (codes "n") ∷ [])
unfolding encode is_blank
n_adds =
    adds_line (codes "@new $n node") (new_line (codes "n")) refl
    (three_words (codes "new") (codes "$n") (codes "node") _ (is_new (codes "$n") (codes "node") (codes "n") node_type (name_n, refl) node_typed) plain_new (λ e. omega (arith, e), refl) (λ e. omega (arith, e), refl))

pub w_adds : Adds (codes "@new $w node\n") (new_line (codes "w") ∷ [])
unfolding encode is_blank
w_adds =
    adds_line (codes "@new $w node") (new_line (codes "w")) refl
    (three_words (codes "new") (codes "$w") (codes "node") _ (is_new (codes "$w") (codes "node") (codes "w") node_type (name_w, refl) node_typed) plain_new (λ e. omega (arith, e), refl) (λ e. omega (arith, e), refl))

-- @set $n.key I
pub key_adds : (i : ℕ) → i < 2 ^ 64 → Adds ((codes "@set $n.key " ++ decimal i) ++ codes "\n") (key_line i ∷ [])
unfolding is_blank
key_adds i small =
    let value = is_integer (decimal i) (pos i) (is_positive (decimal i) i (is_decimal (decimal i) i (decimal_is i small))) in
    adds_line (codes "@set $n.key " ++ decimal i) (key_line i) (list_all-append is_inner (codes "@set $n.key ") (decimal i) ∙ and_from _ _ refl (decimal_inner i))
    (three_words (codes "set") (codes "$n.key") (decimal i) _ (is_set (codes "$n.key") (decimal i) (field_path (codes "n") (codes "key")) (Integer (pos i)) key_path value) plain_set (λ e. omega (arith, e), refl) (decimal_plain i))

-- @set $n.next $p
pub next_adds : Adds (codes "@set $n.next $p\n") (next_line ∷ [])
unfolding encode is_blank
next_adds =
    adds_line (codes "@set $n.next $p") next_line refl
    (three_words (codes "set") (codes "$n.next") (codes "$p") _ (is_set (codes "$n.next") (codes "$p") (field_path (codes "n") (codes "next")) (Var (codes "p")) next_path (is_variable (codes "p") name_p)) plain_set (λ e. omega (arith, e), refl)
    (λ e. omega (arith, e), refl))

-- @set $w.other $n
pub other_adds : Adds (codes "@set $w.other $n\n") (other_line ∷ [])
unfolding encode is_blank
other_adds =
    adds_line (codes "@set $w.other $n") other_line refl
    (three_words (codes "set") (codes "$w.other") (codes "$n") _ (is_set (codes "$w.other") (codes "$n") (field_path (codes "w") (codes "other")) (Var (codes "n")) other_path (is_variable (codes "n") name_n)) plain_set (λ e. omega (arith, e), refl)
    (λ e. omega (arith, e), refl))

-- @set head $n
pub head_adds : Adds (codes "@set head $n\n") (head_line ∷ [])
unfolding encode is_blank
head_adds =
    adds_line (codes "@set head $n") head_line refl
    (three_words (codes "set") (codes "head") (codes "$n") _ (is_set (codes "head") (codes "$n") head_path (Var (codes "n")) head_is (is_variable (codes "n") name_n)) plain_set (λ e. omega (arith, e), refl) (λ e. omega (arith, e), refl))

-- @get $p head
pub get_adds : Adds (codes "@get $p head\n") (get_line ∷ [])
unfolding encode is_blank
get_adds =
    adds_line (codes "@get $p head") get_line refl
    (three_words (codes "get") (codes "$p") (codes "head") _ (is_get (codes "$p") (codes "head") (codes "p") head_path (name_p, refl) head_is) plain_get (λ e. omega (arith, e), refl) (λ e. omega (arith, e), refl))

-- collect force, heap, stats
pub collect_adds : Adds (codes "collect force\n") (loud_line CollectForce ∷ [])
unfolding is_blank
collect_adds =
    let spelled = more_words (codes "collect") (codes "force") (Plain (codes "force") ∷ []) (λ e. omega (arith, e), refl) (one_word (codes "force") (λ e. omega (arith, e), refl)) in
    adds_line (codes "collect force") (loud_line CollectForce) refl (record { verb = codes "collect"; words = Plain (codes "force") ∷ []; form = is_collect_force; spelled = spelled })

pub heap_adds : Adds (codes "heap\n") (loud_line Heap ∷ [])
unfolding is_blank
heap_adds = adds_line (codes "heap") (loud_line Heap) refl (record { verb = codes "heap"; words = []; form = is_heap; spelled = one_word (codes "heap") (λ e. omega (arith, e), refl) })

pub stats_adds : Adds (codes "stats\n") (loud_line Stats ∷ [])
unfolding is_blank
stats_adds = adds_line (codes "stats") (loud_line Stats) refl (record { verb = codes "stats"; words = []; form = is_stats; spelled = one_word (codes "stats") (λ e. omega (arith, e), refl) })
