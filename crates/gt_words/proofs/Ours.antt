-- The command is one of those whose matches and faults clap defines.
use Rattle.std.proofs.Common.{◌≡◌, ◌∙◌, ◌∷◌, true, List, [], ℕ, inl, inr, map, refl, sym, ap, ap₂}
use Rattle.std.specs.Prelude.{encode_utf8_all, Option, None}
use Rattle.clap.specs.Walk.{Text, rows_of}
use Rattle.clap.specs.Simple.{App, HasMatchesOf, is_simple, matches_of}
use Rattle.clap.specs.Kinds.{HasKind, IsAmong, Kinds}
use Rattle.clap.specs.Values.{kind_of}
use Rattle.clap.specs.Faults.{fault_of, is_simple_and_free}
use Rattle.clap.specs.Matches.{found_of}
use Rattle.clap.specs.declared.parser.matches.ArgMatches.{ArgMatches}
use Rattle.clap.specs.declared.error.Error.{Error}
use Rattle.clap.specs.declared.error.kind.ErrorKind.{ErrorKind}
use Rattle.clap.specs.declared.error.kind.ErrorKind.TheVariants.{OutOfMemory}
use Rattle.clap.proofs.OnLiterals.{clap_on_literals}
use Rattle.gt_words.specs.Commands.{our_app}
use Rattle.gt_words.specs.declared.call.Call.{Call}
use Rattle.gt_words.specs.Calls.{call_of, found_call, unless_refused}

is_ours_simple : is_simple our_app ≡ true
unfolding our_app clap_on_literals
is_ours_simple = refl

pub is_ours_free : is_simple_and_free our_app ≡ true
unfolding our_app clap_on_literals
is_ours_free = refl

-- the words are accepted
pub accepted : (a : App) (ts : List Text) (words : List (List ℕ)) (m : ArgMatches) → a ≡ our_app → ts ≡ map encode_utf8_all words
    → HasMatchesOf a ts m → fault_of a ts ≡ [] → found_call (rows_of (found_of m)) ≡ call_of words
unfolding call_of
accepted a ts words m ours same has none =
    let rows : rows_of (found_of m) ≡ matches_of our_app (map encode_utf8_all words) = (has (ap is_simple ours ∙ is_ours_simple)).0 ∙ ap₂ matches_of ours same in
    let free : fault_of our_app (map encode_utf8_all words) ≡ [] = sym (ap₂ fault_of ours same) ∙ none in
    rw (free, rows) refl

some_kind : (kinds : Kinds) (k : ErrorKind) (call : Option Call) → IsAmong k kinds → unless_refused kinds call ≡ None
some_kind [] k call among = absurd among
some_kind (kind ∷ kinds) k call among = refl

-- the words are refused, and not when out of memory
pub refuses : (a : App) (ts : List Text) (words : List (List ℕ)) (e : Error) → a ≡ our_app → ts ≡ map encode_utf8_all words
    → (kind_of e ≡ OutOfMemory → ⊥) → HasKind (fault_of a ts) e → call_of words ≡ None
unfolding call_of
refuses a ts words e ours same enough (inl memory) = absurd (enough memory)
refuses a ts words e ours same enough (inr among) =
    ap (λ kinds. unless_refused kinds (found_call (matches_of our_app (map encode_utf8_all words)))) (sym (ap₂ fault_of ours same))
    ∙ some_kind (fault_of a ts) (kind_of e) _ among
