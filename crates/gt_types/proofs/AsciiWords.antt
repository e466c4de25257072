-- Words of ASCII characters.
use Rattle.std.proofs.Common.{◌≡◌, ◌∙◌, ℕ, ◌<◌, true, List, [], ◌∷◌, sym, arith, ap}
use Rattle.std.specs.Prelude.{encode_utf8_all}
use Rattle.std.specs.List.{list_all}
use Rattle.std.specs.Char.{is_ascii}
use Rattle.std.specs.Str.{bytes_eq, IsAscii}
use Rattle.std.proofs.lemmas.Bool.{and_parts}
use Rattle.std.proofs.lemmas.Bool.Decides.{same_from_decides}
use Rattle.std.proofs.lemmas.Slice.Eq.{bytes_eq-Decides}
use Rattle.std.proofs.lemmas.Str.{encodes_same, encodes-IsAscii}
use Rattle.std.proofs.lemmas.Str.Ascii.{IsAscii-nil, IsAscii-cons}

below : (b : ℕ) → is_ascii b ≡ true → b < 128
below b h = grind arith

pub IsAscii-word : (word : List ℕ) → list_all is_ascii word ≡ true → IsAscii word
IsAscii-word [] h = IsAscii-nil
IsAscii-word (b ∷ bs) h =
    let p = and_parts (is_ascii b) (list_all is_ascii bs) h in IsAscii-cons b bs (below b p.0) (IsAscii-word bs p.1)

-- characters are those of an ASCII word where their bytes are
pub bytes_eq-encodes : (cs word : List ℕ) → IsAscii word → bytes_eq (encode_utf8_all cs) word ≡ bytes_eq cs word
bytes_eq-encodes cs word a =
    let bytes = bytes_eq-Decides (encode_utf8_all cs) word in
    let characters = bytes_eq-Decides cs word in
    same_from_decides _ _ bytes
    (λ h. ap encode_utf8_all (characters.0 h) ∙ encodes-IsAscii word a, λ e. characters.1 (encodes_same cs word (e ∙ sym (encodes-IsAscii word a))))
