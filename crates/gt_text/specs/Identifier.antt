-- Which characters make an identifier.
use Rattle.std.specs.Prelude.{ℕ, Bool, ◌||◌, ◌==◌}
use Rattle.unicode_ident.specs.Ident.{is_xid_start, is_xid_continue}

-- an identifier begins with _ (95), or as Unicode's Annex 31 says
unfoldable pub starts_identifier_of : ℕ → Bool
starts_identifier_of c = (c == 95) || is_xid_start c

-- and goes on with _, or as the annex says
unfoldable pub continues_identifier_of : ℕ → Bool
continues_identifier_of c = (c == 95) || is_xid_continue c
