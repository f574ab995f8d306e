-- What the lines of Byzantine members are about, in the code.
use Rattle.std.specs.Prelude.{ℕ, ◌&&◌, not, List, codes, Option, Some, None, if◌then◌else◌}
use Rattle.std.specs.Option.{option_map}
use Rattle.ord_types.specs.Hashes.{block_hash}
use Rattle.ord_types.specs.Members.{is_in}
use Rattle.ord_types.specs.declared.values.Sig.{Sig}
use Rattle.signer_edge.specs.Statements.{commit_text}
use Rattle.bft_wire.specs.declared.message.Message.{Message}
use Rattle.bft_wire.specs.declared.message.Message.TheVariants as message_of
use Rattle.view_model.specs.Letters.{PrePrepare}
use Rattle.world_model.specs.Liars.{proposal_in}
use Rattle.world_model.specs.Worlds.{World}
use Rattle.world_run.specs.declared.liars.Bar.{Bar}
use Rattle.world_run.specs.declared.liars.Bar.TheVariants.{UnknownNode, NotByzantine}
use Rattle.world_run.specs.declared.liars.Subject.{Subject}

-- why an id may not send to another
abbrev pub bar_between : {S T : Type 0} → World S T → ℕ → ℕ → Option Bar
bar_between w from to =
    if not (is_in from w.config.members && is_in to w.config.members) then Some UnknownNode
    else if not (is_in from w.byzantine) then Some NotByzantine
    else None

-- the reason that a line tells
abbrev pub bar_text : Bar → List ℕ
bar_text UnknownNode = codes "unknown node"
bar_text NotByzantine = codes "not byzantine"

-- what a vote for the block of a proposal is for
abbrev pub subject_on : PrePrepare → Subject
subject_on m = record { config = m.config; number = m.number; digest = block_hash m.block }

-- the same of a message, if it is a proposal
abbrev pub subject_of : Message → Option Subject
subject_of m = option_map subject_on (proposal_in m)

abbrev pub prepare_of : Subject → ℕ → Message
prepare_of subject v =
    message_of.Prepare (record {
      config = subject.config;
      view = v;
      number = subject.number;
      digest = subject.digest;
    })

abbrev pub statement_of : Subject → ℕ → List ℕ
statement_of subject v = commit_text subject.config v subject.number subject.digest

abbrev pub commit_of : Subject → ℕ → Sig → Message
commit_of subject v sig =
    message_of.Commit (record {
      config = subject.config;
      view = v;
      number = subject.number;
      digest = subject.digest;
      sig = sig;
    })
