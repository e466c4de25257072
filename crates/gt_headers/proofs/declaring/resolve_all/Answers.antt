use Rattle.gt_sound.proofs.LawLemmas as laws
use Rattle.gt_headers.proofs.ReadingLemmas.{read_few}
use Rattle.gt_headers.proofs.SoundLemmas.{sound_of}
use Rattle.gt_headers.proofs.declaring.resolve_all.Goals as goal

pub resolve-requires : goal.resolve-requires
resolve-requires c =
    record { files = read_few c.args.texts.now c.in-Ok.files.items c.deref.result.now c.deref.ensures.value c.in-Ok.ensures.files c.requires.few }

pub returns-in-Ok-resolve-clause-sound : goal.returns-in-Ok-resolve-clause-sound
returns-in-Ok-resolve-clause-sound c =
    sound_of laws.read_is_well_made laws.resolved_is_sound c.args.texts.now c.in-Ok.files.items c.deref.result.now c.in-Ok-resolve.draft
    c.deref.ensures.value c.in-Ok.ensures.files c.in-Ok-resolve.ensures.draft
