use Rattle.std.proofs.Common.{◌≡◌, ◌∙◌, ◌+◌, ◌<◌, [], get_or, length, ap, sym, subst, arith, rules, Some, None, true, false}
use Rattle.std.specs.Prelude.{slice_get}
use Rattle.std.proofs.lemmas.Option.{slice_get-get_or, slice_get_within}
use Rattle.gt_types.specs.declared.types.TypeId.{TypeId}
use Rattle.gt_types.specs.declared.types.Ty.TheVariants as ty
use Rattle.gt_types.specs.declared.program.Active.TheVariants.{Never}
use Rattle.gt_types.specs.Unions.{IsCommon}
use Rattle.gt_unions.specs.Tables.{IsCommonPlace}
use Rattle.gt_layout.specs.Places.{begin_at}
use Rattle.gt_layout.proofs.Laying.{read_at}
use Rattle.gt_value.specs.declared.places.Holder.TheVariants as lies_in
use Rattle.gt_value.specs.Reading.{entered, without_pointers}
use Rattle.gt_value.specs.Cursors.{IsMoved}
use Rattle.gt_value.proofs.ZeroSteps.{active-within}
use Rattle.gt_value.proofs.StandingParts.{active-is}
use Rattle.gt_value.proofs.FindingSteps.{node-has}
use Rattle.gt_value.proofs.CursorSteps.{site, answers-none, struct-step, struct-field, struct-spot, struct-none, member-step, member-none, common-step, nothing-none}
use Rattle.gt_value.proofs.CursorCommons.{common-at, common-within}
use Rattle.gt_value.proofs.cursors.Cursor.inside.Goals as goal

pub worth_of-worth-requires : goal.worth_of-worth-requires
worth_of-worth-requires c = record { laid = c.requires.stands.1.context.laid }

pub bounds-as_slice-id : goal.bounds-as_slice-id
bounds-as_slice-id c =
    let self = c.args.self.now in
    let source = self.source in
    let known = node-has c.args.id c.args.desc.now c.requires.stands.0 c.requires.stands.1.fits in
    let there = slice_get_within source.program.now.structures c.args.id.0 known.0 known.1 in
    omega (arith, there, ap length c.as_slice.ensures.items)

pub bounds-as_slice-id-then-not-structure : goal.bounds-as_slice-id-then-not-structure
bounds-as_slice-id-then-not-structure c =
    let self = c.args.self.now in
    let source = self.source in
    let known = node-has c.args.id c.args.desc.now c.requires.stands.0 c.requires.stands.1.fits in
    let there = slice_get_within source.program.now.structures c.args.id.0 known.0 known.1 in
    omega (arith, there, c.requires.stands.1.context.laid.structures.all, ap length c.as_slice-then-not-structure.ensures.items)

pub returns-in_err-field : goal.returns-in_err-field
returns-in_err-field c =
    let self = c.args.self.now in
    let source = self.source in
    let planes = source.layouts.now.structures in
    let y = c.index-as_slice-id.result in
    let value = c.requires.stands.0 in
    let known = node-has c.args.id c.args.desc.now value c.requires.stands.1.fits in
    let there = slice_get_within source.program.now.structures c.args.id.0 known.0 known.1 in
    let has = read_at c.as_slice.result.now source.program.now.structures c.args.id.0 y c.as_slice.ensures.items there c.index-as_slice-id.is in
    let struct : y.is_union ≡ false = search rules in
    let plane = c.index-as_slice-id-then-not-structure.result in
    let within : c.args.id.0 < length planes = omega (arith, there, c.requires.stands.1.context.laid.structures.all) in
    let laid = read_at c.as_slice-then-not-structure.result.now planes c.args.id.0 plane c.as_slice-then-not-structure.ensures.items within c.index-as_slice-id-then-not-structure.is in
    let none : slice_get y.fields c.args.place ≡ None = search rules in
    answers-none source self.site (ty.Node c.args.id c.args.desc.now) self.at c.args.place c.from_residual.result c.from_residual.ensures (struct-none source self.site c.args.id c.args.desc.now self.at y has plane c.args.place struct laid none)

pub returns-in_err-spot : goal.returns-in_err-spot
returns-in_err-spot c =
    let self = c.args.self.now in
    let source = self.source in
    let planes = source.layouts.now.structures in
    let y = c.index-as_slice-id.result in
    let value = c.requires.stands.0 in
    let known = node-has c.args.id c.args.desc.now value c.requires.stands.1.fits in
    let there = slice_get_within source.program.now.structures c.args.id.0 known.0 known.1 in
    let has = read_at c.as_slice.result.now source.program.now.structures c.args.id.0 y c.as_slice.ensures.items there c.index-as_slice-id.is in
    let struct : y.is_union ≡ false = search rules in
    let plane = c.index-as_slice-id-then-not-structure.result in
    let within : c.args.id.0 < length planes = omega (arith, there, c.requires.stands.1.context.laid.structures.all) in
    let laid = read_at c.as_slice-then-not-structure.result.now planes c.args.id.0 plane c.as_slice-then-not-structure.ensures.items within c.index-as_slice-id-then-not-structure.is in
    let f = c.in_ok-field.field.now in
    let got : slice_get y.fields c.args.place ≡ Some f = search rules in
    let none : slice_get plane.fields c.args.place ≡ None = search rules in
    absurd (struct-spot source self.site c.args.id c.args.desc.now self.at y has plane c.args.place f value struct laid got none c.requires.stands.1)

pub overflow_cast-begin-then-not-structure : goal.overflow_cast-begin-then-not-structure
overflow_cast-begin-then-not-structure c =
    let self = c.args.self.now in
    let source = self.source in
    let planes = source.layouts.now.structures in
    let y = c.index-as_slice-id.result in
    let value = c.requires.stands.0 in
    let known = node-has c.args.id c.args.desc.now value c.requires.stands.1.fits in
    let there = slice_get_within source.program.now.structures c.args.id.0 known.0 known.1 in
    let has = read_at c.as_slice.result.now source.program.now.structures c.args.id.0 y c.as_slice.ensures.items there c.index-as_slice-id.is in
    let struct : y.is_union ≡ false = search rules in
    let plane = c.index-as_slice-id-then-not-structure.result in
    let within : c.args.id.0 < length planes = omega (arith, there, c.requires.stands.1.context.laid.structures.all) in
    let laid = read_at c.as_slice-then-not-structure.result.now planes c.args.id.0 plane c.as_slice-then-not-structure.ensures.items within c.index-as_slice-id-then-not-structure.is in
    let f = c.in_ok-field.field.now in
    let got : slice_get y.fields c.args.place ≡ Some f = search rules in
    let spot = c.in_ok-spot.spot.now in
    let spot_of : slice_get plane.fields c.args.place ≡ Some spot = search rules in
    let begin : self.at + c.begin_at.result ≡ self.at + begin_at spot = ap (λ k. self.at + k) c.begin_at.ensures.begin in
    let found = struct-field source self.site c.args.id c.args.desc.now self.at y has plane c.args.place f spot struct laid got spot_of value c.requires.stands.1 in
    omega (arith, begin, found.1.inside, found.1.context.small)

pub returns-then-not-structure : goal.returns-then-not-structure
returns-then-not-structure c =
    let self = c.args.self.now in
    let source = self.source in
    let planes = source.layouts.now.structures in
    let y = c.index-as_slice-id.result in
    let value = c.requires.stands.0 in
    let known = node-has c.args.id c.args.desc.now value c.requires.stands.1.fits in
    let there = slice_get_within source.program.now.structures c.args.id.0 known.0 known.1 in
    let has = read_at c.as_slice.result.now source.program.now.structures c.args.id.0 y c.as_slice.ensures.items there c.index-as_slice-id.is in
    let struct : y.is_union ≡ false = search rules in
    let plane = c.index-as_slice-id-then-not-structure.result in
    let within : c.args.id.0 < length planes = omega (arith, there, c.requires.stands.1.context.laid.structures.all) in
    let laid = read_at c.as_slice-then-not-structure.result.now planes c.args.id.0 plane c.as_slice-then-not-structure.ensures.items within c.index-as_slice-id-then-not-structure.is in
    let f = c.in_ok-field.field.now in
    let got : slice_get y.fields c.args.place ≡ Some f = search rules in
    let spot = c.in_ok-spot.spot.now in
    let spot_of : slice_get plane.fields c.args.place ≡ Some spot = search rules in
    let begin : self.at + c.begin_at.result ≡ self.at + begin_at spot = ap (λ k. self.at + k) c.begin_at.ensures.begin in
    let moved =
    subst (λ k. IsMoved c.cursor_at.result source (site c.enter-inner.result (lies_in.Field c.args.id c.args.place)) f.ty k) begin c.cursor_at.ensures in
    struct-step source self.site c.args.id c.args.desc.now self.at y has plane c.args.place f spot c.cursor_at.result struct laid got spot_of
    (subst (λ x. IsMoved c.cursor_at.result source (site x (lies_in.Field c.args.id c.args.place)) f.ty (self.at + begin_at spot)) c.enter-inner.ensures moved)

pub active_member-requires-clause-laid : goal.active_member-requires-clause-laid
active_member-requires-clause-laid c = c.requires.stands.1.context.laid

pub active_member-requires-clause-has : goal.active_member-requires-clause-has
active_member-requires-clause-has c =
    let self = c.args.self.now in
    let source = self.source in
    let planes = source.layouts.now.structures in
    let y = c.index-as_slice-id.result in
    let value = c.requires.stands.0 in
    let known = node-has c.args.id c.args.desc.now value c.requires.stands.1.fits in
    let there = slice_get_within source.program.now.structures c.args.id.0 known.0 known.1 in
    let has = read_at c.as_slice.result.now source.program.now.structures c.args.id.0 y c.as_slice.ensures.items there c.index-as_slice-id.is in
    has

pub returns-then-active-place : goal.returns-then-active-place
returns-then-active-place c =
    let self = c.args.self.now in
    let source = self.source in
    let planes = source.layouts.now.structures in
    let y = c.index-as_slice-id.result in
    let value = c.requires.stands.0 in
    let known = node-has c.args.id c.args.desc.now value c.requires.stands.1.fits in
    let there = slice_get_within source.program.now.structures c.args.id.0 known.0 known.1 in
    let has = read_at c.as_slice.result.now source.program.now.structures c.args.id.0 y c.as_slice.ensures.items there c.index-as_slice-id.is in
    let inner = entered self.site.around c.args.id self.at in
    let union : y.is_union ≡ true = search rules in
    let active = active-is source c.enter-inner.result inner c.args.desc.now c.worth_of-worth.result y.fields (Some c.in-Some.active) c.enter-inner.ensures c.worth_of-worth.ensures c.in-Some.ensures in
    let within = active-within c.worth_of-worth.result y.fields c.in-Some.active (sym c.in-Some.ensures) in
    let f = get_or y.fields c.in-Some.active (record { name = []; ty = ty.Str None; active = Never }) in
    let got = slice_get-get_or y.fields c.in-Some.active (record { name = []; ty = ty.Str None; active = Never }) within in
    member-none source self.site c.args.id c.args.desc.now self.at y has union c.in-Some.active c.args.place f active got c.if-active-place.true

pub bounds-fields-active : goal.bounds-fields-active
bounds-fields-active c =
    let within = active-within c.worth_of-worth.result c.index-as_slice-id.result.fields c.in-Some.active (sym c.in-Some.ensures) in
    omega (arith, within, ap length c.as_slice-fields.ensures.items)

pub returns-in-Some : goal.returns-in-Some
returns-in-Some c =
    let self = c.args.self.now in
    let source = self.source in
    let planes = source.layouts.now.structures in
    let y = c.index-as_slice-id.result in
    let value = c.requires.stands.0 in
    let known = node-has c.args.id c.args.desc.now value c.requires.stands.1.fits in
    let there = slice_get_within source.program.now.structures c.args.id.0 known.0 known.1 in
    let has = read_at c.as_slice.result.now source.program.now.structures c.args.id.0 y c.as_slice.ensures.items there c.index-as_slice-id.is in
    let inner = entered self.site.around c.args.id self.at in
    let union : y.is_union ≡ true = search rules in
    let active = active-is source c.enter-inner.result inner c.args.desc.now c.worth_of-worth.result y.fields (Some c.in-Some.active) c.enter-inner.ensures c.worth_of-worth.ensures c.in-Some.ensures in
    let within = active-within c.worth_of-worth.result y.fields c.in-Some.active (sym c.in-Some.ensures) in
    let f = c.index-fields-active.result in
    let got = read_at c.as_slice-fields.result.now y.fields c.in-Some.active f c.as_slice-fields.ensures.items within c.index-fields-active.is in
    let got_place = subst (λ k. slice_get y.fields k ≡ Some f) c.if-active-place.false got in
    let active_place = active ∙ ap Some c.if-active-place.false in
    let moved = subst (λ g. IsMoved c.cursor_at-in-Some.result source (site c.enter-inner.result (lies_in.Field c.args.id c.args.place)) g.ty self.at) (sym c.index-fields-active.is) c.cursor_at-in-Some.ensures in
    member-step source self.site c.args.id c.args.desc.now self.at y has union c.args.place f c.cursor_at-in-Some.result active_place got_place
    (subst (λ x. IsMoved c.cursor_at-in-Some.result source (site x (lies_in.Field c.args.id c.args.place)) f.ty self.at) c.enter-inner.ensures moved)

pub common_place-requires-clause-has : goal.common_place-requires-clause-has
common_place-requires-clause-has c =
    let self = c.args.self.now in
    let source = self.source in
    let y = c.index-as_slice-id.result in
    let known = node-has c.args.id c.args.desc.now c.requires.stands.0 c.requires.stands.1.fits in
    let there = slice_get_within source.program.now.structures c.args.id.0 known.0 known.1 in
    read_at c.as_slice.result.now source.program.now.structures c.args.id.0 y c.as_slice.ensures.items there c.index-as_slice-id.is

pub returns-in_err-member : goal.returns-in_err-member
returns-in_err-member c =
    let self = c.args.self.now in
    let source = self.source in
    let y = c.index-as_slice-id.result in
    let value = c.requires.stands.0 in
    let known = node-has c.args.id c.args.desc.now value c.requires.stands.1.fits in
    let there = slice_get_within source.program.now.structures c.args.id.0 known.0 known.1 in
    let has = read_at c.as_slice.result.now source.program.now.structures c.args.id.0 y c.as_slice.ensures.items there c.index-as_slice-id.is in
    let inner = entered self.site.around c.args.id self.at in
    let union : y.is_union ≡ true = search rules in
    let none : c.active_member.result ≡ None = search rules in
    let active = active-is source c.enter-inner.result inner c.args.desc.now c.worth_of-worth.result y.fields None c.enter-inner.ensures c.worth_of-worth.ensures (sym none ∙ c.active_member.ensures) in
    let no_common : (common : TypeId) → ¬ IsCommon source.program.now y common = search rules in
    answers-none source self.site (ty.Node c.args.id c.args.desc.now) self.at c.args.place c.from_residual-in_err-member.result c.from_residual-in_err-member.ensures (nothing-none source self.site c.args.id c.args.desc.now self.at y has union c.args.place active no_common)

pub bounds-fields-member : goal.bounds-fields-member
bounds-fields-member c =
    let y = c.index-as_slice-id.result in
    let is : IsCommonPlace c.args.self.now.source.program.now y c.in_ok-member.member = search rules in
    let within = common-within is.0 y.fields c.in_ok-member.member is.2 in
    omega (arith, within, ap length c.as_slice-fields.ensures.items)

pub returns : goal.returns
returns c =
    let self = c.args.self.now in
    let source = self.source in
    let y = c.index-as_slice-id.result in
    let value = c.requires.stands.0 in
    let known = node-has c.args.id c.args.desc.now value c.requires.stands.1.fits in
    let there = slice_get_within source.program.now.structures c.args.id.0 known.0 known.1 in
    let has = read_at c.as_slice.result.now source.program.now.structures c.args.id.0 y c.as_slice.ensures.items there c.index-as_slice-id.is in
    let inner = entered self.site.around c.args.id self.at in
    let union : y.is_union ≡ true = search rules in
    let none : c.active_member.result ≡ None = search rules in
    let active = active-is source c.enter-inner.result inner c.args.desc.now c.worth_of-worth.result y.fields None c.enter-inner.ensures c.worth_of-worth.ensures (sym none ∙ c.active_member.ensures) in
    let is : IsCommonPlace source.program.now y c.in_ok-member.member = search rules in
    let f = c.index-fields-member.result in
    let within = common-within is.0 y.fields c.in_ok-member.member is.2 in
    let got = read_at c.as_slice-fields.result.now y.fields c.in_ok-member.member f c.as_slice-fields.ensures.items within c.index-fields-member.is in
    let type = common-at source.program.now c.args.id y is.0 c.in_ok-member.member f c.requires.stands.1.context.settled has is.1 is.2 got in
    let changed : c.without_pointers.result ≡ without_pointers inner = c.without_pointers.ensures ∙ ap without_pointers c.enter-inner.ensures in
    let next = c.cursor_at-2.result in
    let of_field = subst (λ g. IsMoved next source (site c.without_pointers.result self.site.holder) g.ty self.at) (sym c.index-fields-member.is) c.cursor_at-2.ensures in
    let of_type = subst (λ t. IsMoved next source (site c.without_pointers.result self.site.holder) t self.at) type of_field in
    common-step source self.site c.args.id c.args.desc.now self.at y has union is.0 c.args.place next active is.1
    (subst (λ x. IsMoved next source (site x self.site.holder) (ty.Node is.0 None) self.at) changed of_type)
