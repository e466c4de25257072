use Rattle.std.proofs.Common.{map, ap, refl}
use Rattle.std.proofs.lemmas.Result.{on_ok_weaker}
use Rattle.gt_value.specs.Names.{kind_of}
use Rattle.gt_value.specs.Values.{trees, tree_of}
use Rattle.gt_show.proofs.Elements.{each_fits, pointer_fits, chars_fit, raw_fit, pointers_added, strings_added, chars_added, raw_added}
use Rattle.gt_show.proofs.blocks.push_block.Goals as goal

pub push_pointers-requires-clause-fit : goal.push_pointers-requires-clause-fit
push_pointers-requires-clause-fit g c =
    pointer_fits _ _ c.in-Pointers.node (kind_of c.args.kind) (trees (map tree_of c.args.elements.now)) (ap kind_of c.in-Pointers.is) c.requires.fits

pub bytes_of-requires : goal.bytes_of-requires
bytes_of-requires g c = record { bytes = chars_fit (kind_of c.args.kind) c.args.elements.now (ap kind_of c.in-Chars.is) (each_fits _ _ (kind_of c.args.kind) (trees (map tree_of c.args.elements.now)) c.requires.fits) }

pub bytes_of-requires-in-Raw : goal.bytes_of-requires-in-Raw
bytes_of-requires-in-Raw g c = record { bytes = raw_fit (kind_of c.args.kind) c.args.elements.now (ap kind_of c.in-Raw.is) (each_fits _ _ (kind_of c.args.kind) (trees (map tree_of c.args.elements.now)) c.requires.fits) }

pub returns-in-Pointers : goal.returns-in-Pointers
returns-in-Pointers g c = record {
  added =
      on_ok_weaker c.push_pointers.result
      (pointers_added _ _ c.in-Pointers.node (kind_of c.args.kind) (trees (map tree_of c.args.elements.now)) c.args.text.now c.push_pointers.new.text (ap kind_of c.in-Pointers.is))
      c.push_pointers.ensures.added;
}

pub returns-in-Strings : goal.returns-in-Strings
returns-in-Strings g c = record {
  added =
      on_ok_weaker c.push_row.result
      (strings_added _ _ _ (kind_of c.args.kind) (trees (map tree_of c.args.elements.now)) c.args.text.now c.push_row.new.text (ap kind_of c.in-Strings.is) refl)
      c.push_row.ensures.added;
}

pub returns-in_ok-bytes-in-Chars : goal.returns-in_ok-bytes-in-Chars
returns-in_ok-bytes-in-Chars g c = record {
  added =
      on_ok_weaker c.push_quoted.result
      (chars_added _ _ (kind_of c.args.kind) (trees (map tree_of c.args.elements.now)) c.in_ok-bytes-in-Chars.bytes c.as_slice.result.now c.args.text.now c.push_quoted.new.text (ap kind_of c.in-Chars.is)
      c.as_slice.ensures.bytes c.in_ok-bytes-in-Chars.ensures)
      c.push_quoted.ensures.added;
}

pub returns-in_ok-bytes-in-Raw : goal.returns-in_ok-bytes-in-Raw
returns-in_ok-bytes-in-Raw g c = record {
  added =
      on_ok_weaker c.push_raw.result
      (raw_added _ _ (kind_of c.args.kind) (trees (map tree_of c.args.elements.now)) c.in_ok-bytes-in-Raw.bytes c.as_slice-in-Raw.result.now c.args.text.now c.push_raw.new.text (ap kind_of c.in-Raw.is)
      c.as_slice-in-Raw.ensures.bytes c.in_ok-bytes-in-Raw.ensures)
      c.push_raw.ensures.added;
}
