-- The characters of a text of ASCII are its bytes.
use Rattle.std.proofs.Common.{◌≡◌, ◌<◌, ℕ, true, nat_lt, List, [], ◌∷◌}
use Rattle.std.specs.Prelude.{IsTrue}
use Rattle.std.specs.List.{list_all, AllByRecursion}
use Rattle.std.specs.Str.{chars}
use Rattle.std.proofs.lemmas.Bool.{ltb-true}
use Rattle.std.proofs.lemmas.List.Elements.{All-from_recursion}
use Rattle.std.proofs.lemmas.Str.{chars-IsAscii}
use Rattle.std.proofs.lemmas.Str.Ascii.{IsAscii-from_all}
use Rattle.sample_program.proofs.Lists.{both}

each : (bs : List ℕ) → list_all (λ b. nat_lt b 128) bs ≡ true → AllByRecursion (λ b. b < 128) bs
each [] h = tt
each (b ∷ bs) h = let parts = both (nat_lt b 128) (list_all (λ c. nat_lt c 128) bs) h in (ltb-true b 128 parts.0, each bs parts.1)

pub ascii : (bs : List ℕ) → IsTrue (list_all (λ b. nat_lt b 128) bs) → chars bs ≡ bs
ascii bs h = chars-IsAscii bs (IsAscii-from_all bs (All-from_recursion (λ b. b < 128) bs (each bs h)))
