use Rattle.std.proofs.Common.{ap, sym, [], arith}
use Rattle.std.specs.Prelude.{string_bytes}
use Rattle.std.proofs.lemmas.List.{append-nil, length-map}
use Rattle.world_run.specs.Entries.{entry_of}
use Rattle.world_run.specs.Mapped.{world_of}
use Rattle.world_run.proofs.LiarLemmas.{sends_done, sends_ended}
use Rattle.world_run.proofs.world.World.send.Goals as goal

pub returns-in-Some-clause-says : goal.returns-in-Some-clause-says
returns-in-Some-clause-says c = λ at later.
    let w = c.args.self.now in
    let posted = c.post.new.self in
    let turned = rw c.in-Some.is at (c.in_ok-ending.ensures.turned at later (string_bytes posted.outside.text) [] (sym (append-nil _))) in
    sends_ended w.outside.number posted.outside.number c.args.word.now c.args.bytes (world_of at w later) (world_of at posted later) _ c.args.from c.args.to _ _ _ c.in-Some.ending
    (c.in_ok-post.ensures.sent at later) c.in_ok-post.ensures.keeps.number (ap string_bytes c.in_ok-post.ensures.text) turned

pub returns-clause-says : goal.returns-clause-says
returns-clause-says c = λ at later.
    let w = c.args.self.now in
    let posted = c.post.new.self in
    let turned = rw c.in_default.is at (c.in_ok-ending.ensures.turned at later (string_bytes posted.outside.text) [] (sym (append-nil _))) in
    sends_done w.outside.number posted.outside.number _ c.args.word.now c.args.bytes (world_of at w later) (world_of at posted later) _ c.args.from c.args.to _ _ _ _
    (c.in_ok-post.ensures.sent at later) c.in_ok-post.ensures.keeps.number (ap string_bytes c.in_ok-post.ensures.text) turned
    (omega (arith, c.len-sent.ensures, length-map c.within_limit.new.self.outside.network.items entry_of))
    (rw (c.in_ok-ending.ensures.number, c.in_ok-post.ensures.keeps.number) at c.in_ok-put_lied.ensures)
