use Rattle.std.proofs.Common.{◌≡◌, ap, sym, subst, ◌∙◌, arith}
use Rattle.std.specs.Prelude.{Some, None}
use Rattle.std.proofs.lemmas.Option.{slice_get_within}
use Rattle.gt_next.specs.Paths.{root_of, Begins, RefusesStart}
use Rattle.gt_next.specs.declared.answer.Why.TheVariants.{Unbound, NoField}
use Rattle.gt_next.specs.States.{meaning}
use Rattle.gt_asking.proofs.Starts.{object-in, root-there}
use Rattle.gt_asking.proofs.paths.start_of.Goals as goal

pub returns-in-Some-clause-begins : goal.returns-in-Some-clause-begins
returns-in-Some-clause-begins c told state st =
    let is : meaning state.variables c.args.path.now.name ≡ Some c.in-Some.addr = ap (λ v. meaning v c.args.path.now.name) st.holds.variables ∙ sym c.get.ensures.meaning ∙ c.in-Some.is in
    Begins.at_variable c.if-path.true is

pub returns-in-Some-clause-there : goal.returns-in-Some-clause-there
returns-in-Some-clause-there c heap is =
    let st = c.requires.session.2 in
    let bound : meaning c.requires.session.1.variables c.args.path.now.name ≡ Some c.in-Some.addr = ap (λ v. meaning v c.args.path.now.name) st.holds.variables ∙ sym c.get.ensures.meaning ∙ c.in-Some.is in
    let o = st.good.variables c.args.path.now.name c.in-Some.addr bound in
    object-in c.args.s.now.schema.program c.args.s.now.schema.layouts c.args.s.now.objects c.requires.session.1.heap heap st.holds.heap is c.in-Some.addr o.0 o.1

pub returns-in-None-clause-refused : goal.returns-in-None-clause-refused
returns-in-None-clause-refused c why e told state st =
    let same : Unbound ≡ why = cc in
    let is : meaning state.variables c.args.path.now.name ≡ None = ap (λ v. meaning v c.args.path.now.name) st.holds.variables ∙ sym c.get.ensures.meaning ∙ c.in-None.is in
    subst (RefusesStart c.args.s.now.schema.program state c.args.path.now) same (RefusesStart.unbound c.if-path.true is)

pub overflow_cast-result : goal.overflow_cast-result
overflow_cast-result c =
    let schema = c.requires.session.2.holds.schema in
    let is : root_of c.args.s.now.schema.program c.args.path.now.name ≡ Some c.in-Some-root.place = sym (c.root.ensures.place c.args.s.now.schema.program schema.names) ∙ c.in-Some-root.is in
    let root = root-there c.args.s.now.schema.program c.args.path.now.name c.in-Some-root.place is in
    let within = slice_get_within c.args.s.now.schema.program.roots c.in-Some-root.place root.0 root.1 in
    omega (arith, within, schema.settled.few_roots)

pub returns-in-Some-root-clause-begins : goal.returns-in-Some-root-clause-begins
returns-in-Some-root-clause-begins c told state st =
    let schema = c.requires.session.2.holds.schema in
    Begins.at_root c.if-path.false (sym (c.root.ensures.place c.args.s.now.schema.program schema.names) ∙ c.in-Some-root.is)

pub returns-in-Some-root-clause-there : goal.returns-in-Some-root-clause-there
returns-in-Some-root-clause-there c heap is =
    let schema = c.requires.session.2.holds.schema in
    root-there c.args.s.now.schema.program c.args.path.now.name c.in-Some-root.place (sym (c.root.ensures.place c.args.s.now.schema.program schema.names) ∙ c.in-Some-root.is)

pub returns-in-None-root-clause-refused : goal.returns-in-None-root-clause-refused
returns-in-None-root-clause-refused c why e told state st =
    let schema = c.requires.session.2.holds.schema in
    let same : NoField ≡ why = cc in
    let is : root_of c.args.s.now.schema.program c.args.path.now.name ≡ None = sym (c.root.ensures.place c.args.s.now.schema.program schema.names) ∙ c.in-None-root.is in
    subst (RefusesStart c.args.s.now.schema.program state c.args.path.now) same (RefusesStart.no_root c.if-path.false is)
