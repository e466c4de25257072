use Rattle.std.proofs.Common.{◌≡◌, Some, false, sym, ap, ◌∙◌}
use Rattle.std.specs.Option.{option_map}
use Rattle.gt_split.specs.Cutting.{quoted_at}
use Rattle.gt_split.proofs.Boundaries.{quoted_utf8}
use Rattle.gt_split.proofs.pieces.quoted_word.Goals as goal

pub of-quoted-requires : goal.of-quoted-requires
of-quoted-requires c =
    let read : quoted_at false c.as_bytes.result.now ≡ Some (c.in-Some.bytes, c.in-Some.after.now) = sym c.in_ok-bytes.ensures ∙ ap (option_map (λ r. (r.0, r.1.now))) c.in-Some.is in
    record { utf8 = (quoted_utf8 c.as_bytes.result.now c.in-Some.bytes c.in-Some.after.now read c.as_bytes.ensures.utf8).0 }

pub from_utf8_unchecked-after-requires : goal.from_utf8_unchecked-after-requires
from_utf8_unchecked-after-requires c =
    let read : quoted_at false c.as_bytes.result.now ≡ Some (c.in-Some.bytes, c.in-Some.after.now) = sym c.in_ok-bytes.ensures ∙ ap (option_map (λ r. (r.0, r.1.now))) c.in-Some.is in
    (quoted_utf8 c.as_bytes.result.now c.in-Some.bytes c.in-Some.after.now read c.as_bytes.ensures.utf8).1
