use Rattle.std.proofs.Common.{None, ◌++◌, ◌∙◌, List, ap, sym}
use Rattle.std.proofs.lemmas.List.{append-nil}
use Rattle.view_model.specs.declared.act.Act.TheVariants as act_of
use Rattle.node_model.specs.Entries.{Entry, statements_of}
use Rattle.bft_node.specs.Calls.{after_rule, repeats_current}
use Rattle.bft_node.specs.Running.{as_found}
use Rattle.bft_node.proofs.MakingLemmas.{makes_as}
use Rattle.bft_node.proofs.RepeatLemmas.{makes_found, ready_taken, repeats_as, taken_stays, without_found}
use Rattle.bft_node.proofs.SigningLemmas.{signs_nothing, signs_with}
use Rattle.bft_node.proofs.live.Running.repeat.Goals as goal

pub returns-in-Some-clause-stays : goal.returns-in-Some-clause-stays
returns-in-Some-clause-stays g c =
    let s = c.repeat_found.ensures.stays in
    record {
      same = record { id = s.same.id; config = s.same.config };
      sound = s.sound;
      ready = λ tells moments ready. s.ready tells moments
          (ready_taken tells moments c.args.self.now c.replace.new.dest ready);
    }

pub returns-in-None-clause-stays : goal.returns-in-None-clause-stays
returns-in-None-clause-stays g c = taken_stays c.args.self.now c.replace.new.dest c.requires

pub returns-in-Some-clause-makes : goal.returns-in-Some-clause-makes
returns-in-Some-clause-makes g c =
    signs_with g.K.Signer.sign_gives c.repeat_found.result _ _ _ _
    (λ signings makes tells moments ready b made fit grows h.
    repeats_as b c.repeat_found.result c.repeat_found.new.self _ _ _ tells moments _ _
    (ap (λ o. after_rule (repeats_current (as_found o) b.keys) b made) (sym c.in-Some.is ∙ c.replace.ensures.value))
    (makes tells moments (ready_taken tells moments (without_found c.args.self.now) c.replace.new.dest ready) b made fit
    grows
    (makes_found b made act_of.Kept c.args.self.now None c.replace.new.dest _ c.replace.ensures.after h)))
    c.repeat_found.ensures.makes

pub returns-in-None-clause-makes : goal.returns-in-None-clause-makes
returns-in-None-clause-makes g c =
    signs_nothing g.K.Signer.sign_gives _ _ _
    (λ tells moments ready b made fit grows h.
    let same = sym (append-nil made)
    ∙ ap (λ o. after_rule (repeats_current (as_found o) b.keys) b made) (sym c.in-None.is ∙ c.replace.ensures.value) in (
      makes_as b made _ act_of.Kept _ _ same
          (makes_found b made act_of.Kept c.args.self.now None c.replace.new.dest _ c.replace.ensures.after h),
      ap (λ (l : List Entry). statements_of l) (sym same) ∙ sym (append-nil (statements_of made)),
    ))
