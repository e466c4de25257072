use Rattle.gt_headers.proofs.ReadOutcomes.{one_reading, read_no_reading_fault, one_reading_fault}
use Rattle.gt_headers.proofs.SoundLemmas.{sound_by}
use Rattle.gt_headers.proofs.Outcomes.{one_declared, one_first_fault, declared_no_fault, some_outcome}
use Rattle.gt_headers.proofs.laws.one_outcome.Goals as goal

pub returns : goal.returns
returns c =
    let lexed = c.one_answer.ensures in
    let search = c.one_search.ensures in
    let resolved = c.one_outcome.ensures in
    let one = one_reading search lexed.tokens lexed.not_both lexed.fault in
    let none = read_no_reading_fault search lexed.tokens lexed.not_both lexed.fault in
    let same = one_reading_fault search lexed.tokens lexed.not_both lexed.fault in
    let settlement = c.one_settlement.ensures.not_two in
    let sound = sound_by c.read_is_well_made.ensures.well_made c.resolved_is_sound.ensures.sound in
    let settled = c.declared_is_settled.ensures.settled in
    let layout = c.one_layout.ensures in
    record {
      program = one_declared one none same resolved.not_both resolved.draft resolved.fault sound settlement settled layout;
      fault = one_first_fault one none same resolved.not_both resolved.draft resolved.fault sound settlement settled layout;
      no_fault = declared_no_fault one none same resolved.not_both resolved.draft resolved.fault sound settlement settled layout;
      resolved = some_outcome one none same resolved.not_both resolved.draft resolved.fault sound settlement settled layout c.one_settlement.ensures.one;
    }
