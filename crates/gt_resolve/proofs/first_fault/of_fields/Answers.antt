use Rattle.std.proofs.Common.{◌≡◌, ◌∙◌, ◌<◌, length, take, sym, ap, arith}
use Rattle.std.specs.Prelude.{is_some}
use Rattle.std.specs.Str.{bytes_eq}
use Rattle.gt_resolve.proofs.Firsts.{names_of, names_more, length_names, first_from_field, first_from_fields}
use Rattle.gt_resolve.proofs.NameTests.{is_among, among_more}
use Rattle.gt_names.proofs.NameTests.{is_some_position}
use Rattle.gt_resolve.proofs.first_fault.of_fields.Goals as goal

pub loop-place-preserved : goal.loop-place-preserved
loop-place-preserved c =
    let at = c.loop-place.place in
    let fields = c.args.fields.now in
    let f = c.index-fields-place.result in
    let before = names_of (take at fields) in
    let within : at < length fields = omega arith in
    let named : is_among f.name.word before ≡ c.is_some-named.result =
    c.loop-place.invariant.names f.name.word ∙ sym (c.is_some-named.ensures ∙ ap is_some c.get.ensures.place ∙ is_some_position (λ other. bytes_eq other f.name.word) c.loop-place.names) in
    record {
      earliest =
          first_from_field c.args.tails.now c.args.file c.args.in_union c.loop-place.earliest c.of_field-earliest.result at fields f within c.index-fields-place.is
          (c.of_field-earliest.ensures.earliest before named (length_names at fields (omega arith)))
          ∙ c.loop-place.invariant.earliest;
      names = λ word.
          ap (is_among word) (names_more at fields f within c.index-fields-place.is)
          ∙ among_more word before c.loop-place.names c.add.new.self f.name.word (c.loop-place.invariant.names word) c.in_ok-add.ensures.added;
    }

pub returns : goal.returns
returns c =
    record {
      earliest =
          first_from_fields c.args.tails.now c.args.file c.args.in_union c.loop-place.earliest c.loop-place.place c.args.fields.now (omega arith)
          ∙ c.loop-place.invariant.earliest;
    }
