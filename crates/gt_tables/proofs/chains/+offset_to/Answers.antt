use Rattle.std.proofs.Common.{◌∙◌, arith, rules}
use Rattle.gt_tables.proofs.ChainOffsets.{on-leads, on-none, on-some, on-small}
use Rattle.gt_tables.proofs.chains.+offset_to.Goals as goal

-- the rest leads on from the structure that the field holds
pub offset_to-requires : goal.offset_to-requires
offset_to-requires t c = (
  search rules,
  (
    c.requires.settled,
    (
      c.requires.laid,
      (
        c.requires.within,
        on-leads c.args.program.now c.args.layouts.now c.requires.laid c.requires.within c.args.node c.in-Node.id c.in-Node.desc c.args.places.now c.in-len1-up.len_at_least c.in_ok-ty.ty.now c.in_ok-offset.offset
            c.in_ok-ty.ensures c.in_ok-offset.ensures c.in-Node.is c.requires.leads c.if-is_empty.ensures,
      ),
    ),
  ),
)

pub returns-in_err-inside : goal.returns-in_err-inside
returns-in_err-inside t c = record {
  offset =
      c.from_residual-in_err-inside.ensures
      ∙ on-none c.args.program.now c.args.layouts.now c.requires.laid c.requires.within c.args.node c.in-Node.id c.in-Node.desc c.args.places.now c.in-len1-up.len_at_least c.in_ok-ty.ty.now c.in_ok-offset.offset
      c.in_ok-ty.ensures c.in_ok-offset.ensures c.in-Node.is c.requires.leads c.in_err-inside.ensures.offset;
}

-- a field of it begins inside the structure
pub overflow_add-result : goal.overflow_add-result
overflow_add-result t c =
    let small = on-small c.args.program.now c.args.layouts.now c.requires.laid c.requires.within c.args.node c.in-Node.id c.in-Node.desc c.args.places.now c.in-len1-up.len_at_least c.in_ok-ty.ty.now c.in_ok-offset.offset
    c.in_ok-ty.ensures c.in_ok-offset.ensures c.in-Node.is c.requires.leads c.in_ok-inside.inside c.in_ok-inside.ensures.offset in
    omega (arith, small)

pub returns : goal.returns
returns t c = record {
  offset =
      on-some c.args.program.now c.args.layouts.now c.requires.laid c.requires.within c.args.node c.in-Node.id c.in-Node.desc c.args.places.now c.in-len1-up.len_at_least c.in_ok-ty.ty.now c.in_ok-offset.offset
      c.in_ok-ty.ensures c.in_ok-offset.ensures c.in-Node.is c.requires.leads c.in_ok-inside.inside c.in_ok-inside.ensures.offset;
}
