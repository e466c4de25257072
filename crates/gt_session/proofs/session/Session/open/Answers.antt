use Rattle.std.proofs.Common.{◌≡◌, [], Option, refl, sym, subst}
use Rattle.std.specs.Prelude.{IfOk}
use Rattle.std.proofs.lemmas.Result.{err_from_is_err_and}
use Rattle.gt_graph.specs.Objects.{blocks_of}
use Rattle.gt_io.specs.Held.{Held}
use Rattle.gt_next.specs.States.{IsOpening, State}
use Rattle.gt_session.specs.declared.session.Session.{Session}
use Rattle.gt_session.specs.Sessions.{StandsFor}
use Rattle.gt_session.proofs.Opened.{opened}
use Rattle.gt_session.proofs.RootZeros.{zero-record}
use Rattle.gt_session.proofs.session.Session.open.Goals as goal

pub returns-in-Ok : goal.returns-in-Ok
returns-in-Ok c = record {
  opens =
      opened
      (record {
        schema = c.args.schema;
        objects = c.in-Ok.begun.objects;
        caches = c.in-Ok.begun.caches;
        vars = c.new.result;
        min_expand = c.args.min_expand;
        min_heapsize = c.args.min_heapsize;
        last = 0;
        rounds = 0;
      })
      c.args.pages (zero-record c.args.schema.program c.requires.schema.settled).0 ((zero-record c.args.schema.program c.requires.schema.settled).1 (blocks_of [])) c.requires.schema
      (c.in-Ok.ensures.opening c.args.schema.program (zero-record c.args.schema.program c.requires.schema.settled).0 c.requires.schema.settled c.requires.schema.laid
      ((zero-record c.args.schema.program c.requires.schema.settled).1 (blocks_of [])))
      c.requires.at_least c.requires.at_most c.requires.min_expand c.requires.min_heapsize c.new.ensures.empty c.in-Ok.ensures.no_pairs refl refl;
  schema = refl;
}
