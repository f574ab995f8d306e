use Rattle.std.proofs.Common.{◌≡◌, ◌∙◌, arith, map, slice_get, Some}
use Rattle.world_model.specs.Worlds as worlds
use Rattle.world_run.specs.Entries.{entry_of}
use Rattle.world_run.proofs.LiarLemmas.{subject_read, voted_commit, voted_nothing, voted_prepare}
use Rattle.world_run.proofs.SaysLemmas.{said_of}
use Rattle.world_run.proofs.world.World.vote_at.Goals as goal

pub returns-in-None-clause-says : goal.returns-in-None-clause-says
returns-in-None-clause-says c =
    let w = c.args.self.now in
    let network = w.outside.network.items in
    said_of c.refuse.result w c.refuse.new.self (λ (entry : worlds.Entry). slice_get (map entry_of network) c.args.at ≡ Some entry) _ _
    (λ entry is v. voted_nothing w.outside.number v c.args.from c.args.to c.args.kind c.args.view entry.bytes
    (subject_read network c.args.at c.index.result.now entry _ _ (omega arith) c.index.ensures is (c.as_slice-bytes.ensures ∙ c.as_ref.ensures) c.in_ok-subject_in.ensures ∙ c.in-None.is))
    c.refuse.ensures.says

pub returns-in-Prepare-clause-says : goal.returns-in-Prepare-clause-says
returns-in-Prepare-clause-says c =
    let w = c.args.self.now in
    let network = w.outside.network.items in
    said_of c.send_prepare.result w c.send_prepare.new.self (λ (entry : worlds.Entry). slice_get (map entry_of network) c.args.at ≡ Some entry) _ _
    (λ entry is v. voted_prepare w.outside.number v c.args.from c.args.to c.args.kind c.args.view entry.bytes c.in-Some.subject c.in-Prepare.is
    (subject_read network c.args.at c.index.result.now entry _ _ (omega arith) c.index.ensures is (c.as_slice-bytes.ensures ∙ c.as_ref.ensures) c.in_ok-subject_in.ensures ∙ c.in-Some.is))
    c.send_prepare.ensures.says

pub returns-in-Commit-clause-says : goal.returns-in-Commit-clause-says
returns-in-Commit-clause-says c =
    let w = c.args.self.now in
    let network = w.outside.network.items in
    said_of c.send_commit.result w c.send_commit.new.self (λ (entry : worlds.Entry). slice_get (map entry_of network) c.args.at ≡ Some entry) _ _
    (λ entry is v. voted_commit w.outside.number v c.args.from c.args.to c.args.kind c.args.view entry.bytes c.in-Some.subject c.in-Commit.is
    (subject_read network c.args.at c.index.result.now entry _ _ (omega arith) c.index.ensures is (c.as_slice-bytes.ensures ∙ c.as_ref.ensures) c.in_ok-subject_in.ensures ∙ c.in-Some.is))
    c.send_commit.ensures.says
