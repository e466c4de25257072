-- Names of ASCII characters alone.
use Rattle.std.proofs.Common.{◌≡◌, ◌∙◌, ℕ, ◌<◌, Bool, true, false, List, [], ◌∷◌, Some, refl, ap, arith}
use Rattle.std.specs.Prelude.{◌||◌, ◌==◌}
use Rattle.std.specs.List.{list_all}
use Rattle.std.specs.Char.{is_ascii_alphabetic, is_ascii_alphanumeric}
use Rattle.std.specs.Str.{IsAscii, chars}
use Rattle.std.proofs.lemmas.Bool.{and_parts, and_from, or_left}
use Rattle.std.proofs.lemmas.Str.{IsUtf8-from_ascii, is_utf8-from_IsUtf8, chars-IsAscii}
use Rattle.std.proofs.lemmas.Str.Ascii.{IsAscii-nil, IsAscii-cons}
use Rattle.unicode_ident.proofs.IdentLemmas.{is_xid_start-ascii, is_xid_continue-ascii}
use Rattle.gt_text.specs.Identifier.{starts_identifier_of, continues_identifier_of}
use Rattle.gt_script.specs.Values.{is_identifier_of, name_at}

-- an ASCII character that may begin a name
abbrev pub starts_ascii_name : ℕ → Bool
starts_ascii_name c = (c == 95) || is_ascii_alphabetic c

-- and one that may go on with it
abbrev pub continues_ascii_name : ℕ → Bool
continues_ascii_name c = (c == 95) || is_ascii_alphanumeric c

start_below : (c : ℕ) → starts_ascii_name c ≡ true → c < 128
start_below c h = grind arith

below : (c : ℕ) → continues_ascii_name c ≡ true → c < 128
below c h = grind arith

starts : (c : ℕ) → starts_ascii_name c ≡ true → starts_identifier_of c ≡ true
unfolding starts_identifier_of
starts c h = rw (is_xid_start-ascii c (start_below c h)) h

continues : (c : ℕ) → continues_ascii_name c ≡ true → continues_identifier_of c ≡ true
unfolding continues_identifier_of
continues c h = rw (is_xid_continue-ascii c (below c h)) (turned (c == 95) (is_ascii_alphanumeric c) h)
  where
    turned : (a b : Bool) → (a || b) ≡ true → (a || (b || a)) ≡ true
    turned true b h = refl
    turned false b h = or_left b false h

all_ascii : (cs : List ℕ) → list_all continues_ascii_name cs ≡ true → IsAscii cs
all_ascii [] h = IsAscii-nil
all_ascii (c ∷ cs) h = let p = and_parts (continues_ascii_name c) (list_all continues_ascii_name cs) h in IsAscii-cons c cs (below c p.0) (all_ascii cs p.1)

all_continue : (cs : List ℕ) → list_all continues_ascii_name cs ≡ true → list_all continues_identifier_of cs ≡ true
all_continue [] h = refl
all_continue (c ∷ cs) h =
    let p = and_parts (continues_ascii_name c) (list_all continues_ascii_name cs) h in
    and_from (continues_identifier_of c) (list_all continues_identifier_of cs) (continues c p.0) (all_continue cs p.1)

pub name_ascii : (c : ℕ) (cs : List ℕ) → starts_ascii_name c ≡ true → list_all continues_ascii_name cs ≡ true → IsAscii (c ∷ cs)
name_ascii c cs h hs = IsAscii-cons c cs (start_below c h) (all_ascii cs hs)

pub name_identifier : (c : ℕ) (cs : List ℕ) → starts_ascii_name c ≡ true → list_all continues_ascii_name cs ≡ true → is_identifier_of (c ∷ cs) ≡ true
unfolding is_identifier_of
name_identifier c cs h hs = and_from (starts_identifier_of c) (list_all continues_identifier_of cs) (starts c h) (all_continue cs hs)

pub name_from_ascii : (text : List ℕ) → IsAscii text → is_identifier_of text ≡ true → name_at text ≡ Some (chars text)
unfolding name_at
name_from_ascii text a h = rw (is_utf8-from_IsUtf8 text (IsUtf8-from_ascii text a), ap is_identifier_of (chars-IsAscii text a) ∙ h) refl
