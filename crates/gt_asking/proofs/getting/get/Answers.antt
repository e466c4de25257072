use Rattle.std.proofs.Common.{ap, arith, sym, subst, ◌∙◌, Err, Some, SFits}
use Rattle.std.specs.Int.{w128}
use Rattle.std.proofs.lemmas.Int.{to_z-of_z, ints}
use Rattle.gt_next.specs.declared.answer.Answer.TheVariants.{Number}
use Rattle.gt_next.specs.Leaves.{IsObject}
use Rattle.gt_next.specs.Next.{NextGet, Answers}
use Rattle.gt_routes.specs.Reaching.{spot_of}
use Rattle.gt_asking.specs.Finding.{ReadsAs}
use Rattle.gt_asking.proofs.Ends.{end-stands, object-there}
use Rattle.gt_asking.proofs.Bindings.{goes-so}
use Rattle.gt_asking.proofs.getting.get.Goals as goal

pub returns-in-Refused-clause-next : goal.returns-in-Refused-clause-next
returns-in-Refused-clause-next c told s st = (s, NextGet.refused (c.reach.ensures.refused c.in-Refused.why (c.in-Err.is ∙ ap Err c.in-Refused.is) told s st), st)

pub bind-requires : goal.bind-requires
bind-requires c = record {
  object = λ told s st.
      let schema = c.args.s.now.schema in
      let end = end-stands schema.program schema.layouts c.args.s.now.objects s.heap (spot_of c.reach.new.to) c.reach.new.to.end (c.in-Ok.ensures.ends s.heap st.holds.heap) in
      let reads = subst (ReadsAs end.0) (c.in-Some.is ∙ ap Some c.in-Object.is) (c.read_end.ensures.read s.heap end.0 st.holds.heap end.1) in
      object-there schema.program schema.layouts c.args.s.now.objects s.heap (spot_of c.reach.new.to) c.reach.new.to.end end.0 c.in-Object.addr st.good.heap.graph (c.in-Ok.ensures.ends s.heap st.holds.heap) end.1 reads;
}

pub returns-in_default-clause-next : goal.returns-in_default-clause-next
returns-in_default-clause-next c told s st =
    let schema = c.args.s.now.schema in
    let end = end-stands schema.program schema.layouts c.args.s.now.objects s.heap (spot_of c.reach.new.to) c.reach.new.to.end (c.in-Ok.ensures.ends s.heap st.holds.heap) in
    let none = subst (ReadsAs end.0) c.in_default.is (c.read_end.ensures.read s.heap end.0 st.holds.heap end.1) in
    (s, NextGet.no_leaf (c.in-Ok.ensures.leads told s st) end.1 none, st)

pub returns-in-Number-clause-next : goal.returns-in-Number-clause-next
returns-in-Number-clause-next c told s st =
    let schema = c.args.s.now.schema in
    let fits : SFits w128 c.in-Number.n = search (arith, ints) in
    let end = end-stands schema.program schema.layouts c.args.s.now.objects s.heap (spot_of c.reach.new.to) c.reach.new.to.end (c.in-Ok.ensures.ends s.heap st.holds.heap) in
    let reads = subst (ReadsAs end.0) (c.in-Some.is ∙ ap Some c.in-Number.is) (c.read_end.ensures.read s.heap end.0 st.holds.heap end.1) in
    let next : NextGet schema.program s c.args.var.now c.args.path.now (Number c.in-Number.n) s = NextGet.reads (c.in-Ok.ensures.leads told s st) end.1 reads Answers.a_number in
    (s, subst (λ n. NextGet schema.program s c.args.var.now c.args.path.now (Number n) s) (sym (to_z-of_z w128 c.in-Number.n fits)) next, st)

pub returns-in-Null-clause-next : goal.returns-in-Null-clause-next
returns-in-Null-clause-next c told s st =
    let schema = c.args.s.now.schema in
    let end = end-stands schema.program schema.layouts c.args.s.now.objects s.heap (spot_of c.reach.new.to) c.reach.new.to.end (c.in-Ok.ensures.ends s.heap st.holds.heap) in
    let reads = subst (ReadsAs end.0) (c.in-Some.is ∙ ap Some c.in-Null.is) (c.read_end.ensures.read s.heap end.0 st.holds.heap end.1) in
    (s, NextGet.reads (c.in-Ok.ensures.leads told s st) end.1 reads Answers.a_null, st)

pub returns-in-Object-clause-next : goal.returns-in-Object-clause-next
returns-in-Object-clause-next c =
    goes-so (λ s answer t. Answers s c.args.var.now (IsObject c.in-Object.addr) answer t) (λ s answer t. NextGet c.args.s.now.schema.program s c.args.var.now c.args.path.now answer t) c.args.s.now _ c.bind.result
    (λ told s t answer st answers.
    let schema = c.args.s.now.schema in
    let end = end-stands schema.program schema.layouts c.args.s.now.objects s.heap (spot_of c.reach.new.to) c.reach.new.to.end (c.in-Ok.ensures.ends s.heap st.holds.heap) in
    let reads = subst (ReadsAs end.0) (c.in-Some.is ∙ ap Some c.in-Object.is) (c.read_end.ensures.read s.heap end.0 st.holds.heap end.1) in
    NextGet.reads (c.in-Ok.ensures.leads told s st) end.1 reads answers)
    c.bind.ensures.bound
