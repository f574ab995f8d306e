use Rattle.bft_wal.proofs.RecordLaws.{record_complete, record_sound, record_spellings}
use Rattle.bft_wal.proofs.laws.records_are_read.Goals as goal

pub returns-clause-again : goal.returns-clause-again
returns-clause-again c = record_complete

pub returns-clause-sound : goal.returns-clause-sound
returns-clause-sound c = record_sound

pub returns-clause-one : goal.returns-clause-one
returns-clause-one c = record_spellings
