use Rattle.gt_settled.proofs.Whole as whole
use Rattle.gt_headers.proofs.ReadingLemmas.{read_few}
use Rattle.gt_headers.proofs.SettlingLemmas.{declares_by, roots_in, size_stop, structures_in}
use Rattle.gt_headers.proofs.declaring.declare.Goals as goal

pub lay_out-requires-clause-few : goal.lay_out-requires-clause-few
lay_out-requires-clause-few c =
    read_few c.args.texts.now c.in-Ok.resolution.files.items c.deref.result.now c.deref.ensures.value c.in-Ok.ensures.read c.requires.few

pub lay_out-requires-clause-settled : goal.lay_out-requires-clause-settled
lay_out-requires-clause-settled c =
    let draft = c.in-Ok.resolution.draft in
    whole.settled draft c.in-Ok-settle.program c.in-Ok.ensures.sound c.in-Ok-settle.ensures.declared

pub lay_out-requires-clause-structures : goal.lay_out-requires-clause-structures
lay_out-requires-clause-structures c =
    let texts = c.args.texts.now in
    let files = c.in-Ok.resolution.files.items in
    let draft = c.in-Ok.resolution.draft in
    let program = c.in-Ok-settle.program in
    let declares = c.in-Ok-settle.ensures.declared in
    structures_in texts files draft c.in-Ok.ensures.read c.in-Ok.ensures.resolved program declares c.deref.result.now c.deref.ensures.value

pub lay_out-requires-clause-roots : goal.lay_out-requires-clause-roots
lay_out-requires-clause-roots c =
    let texts = c.args.texts.now in
    let files = c.in-Ok.resolution.files.items in
    let draft = c.in-Ok.resolution.draft in
    let program = c.in-Ok-settle.program in
    let declares = c.in-Ok-settle.ensures.declared in
    roots_in texts files draft c.in-Ok.ensures.read c.in-Ok.ensures.resolved program declares c.deref.result.now c.deref.ensures.value

pub returns-in-Ok-lay_out-clause-declared : goal.returns-in-Ok-lay_out-clause-declared
returns-in-Ok-lay_out-clause-declared c =
    let texts = c.args.texts.now in
    let files = c.in-Ok.resolution.files.items in
    let draft = c.in-Ok.resolution.draft in
    let program = c.in-Ok-settle.program in
    let declares = c.in-Ok-settle.ensures.declared in
    declares_by texts files draft c.in-Ok.ensures.read c.in-Ok.ensures.resolved program declares c.deref.result.now c.deref.ensures.value c.in-Ok-lay_out.ensures.sized

pub returns-clause-stopped : goal.returns-clause-stopped
returns-clause-stopped c =
    let texts = c.args.texts.now in
    let files = c.in-Ok.resolution.files.items in
    let draft = c.in-Ok.resolution.draft in
    let program = c.in-Ok-settle.program in
    let declares = c.in-Ok-settle.ensures.declared in
    size_stop texts files draft c.in-Ok.ensures.read c.in-Ok.ensures.resolved program declares c.deref.result.now c.deref.ensures.value c.in-Err-lay_out.stop c.in-Err-lay_out.ensures.stopped
