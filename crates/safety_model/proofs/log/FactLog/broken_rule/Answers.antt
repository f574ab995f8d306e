use Rattle.std.proofs.Common.{◌≡◌, ◌∙◌, ap, sym}
use Rattle.safety_model.specs.Rules.{first_broken, tests_under}
use Rattle.safety_model.proofs.Chains.{tests_are}
use Rattle.safety_model.proofs.log.FactLog.broken_rule.Goals as goal

pub returns-in-Accepted : goal.returns-in-Accepted
returns-in-Accepted c =
    let under : c.broken_acceptance.result ≡ first_broken (tests_under c.args.self.now.setup c.args.self.now.history c.args.self.now.setup.config c.args.fact.now) = rw c.in-Accepted.is c.broken_acceptance.ensures in
    under ∙ sym (ap first_broken (tests_are c.args.self.now.setup c.args.self.now.history c.args.fact.now))

pub returns-in-Prepared : goal.returns-in-Prepared
returns-in-Prepared c =
    let under : c.broken_preparation.result ≡ first_broken (tests_under c.args.self.now.setup c.args.self.now.history c.args.self.now.setup.config c.args.fact.now) = rw c.in-Prepared.is c.broken_preparation.ensures in
    under ∙ sym (ap first_broken (tests_are c.args.self.now.setup c.args.self.now.history c.args.fact.now))

pub returns-in-Left : goal.returns-in-Left
returns-in-Left c =
    let under : c.broken_leaving.result ≡ first_broken (tests_under c.args.self.now.setup c.args.self.now.history c.args.self.now.setup.config c.args.fact.now) = rw c.in-Left.is c.broken_leaving.ensures in
    under ∙ sym (ap first_broken (tests_are c.args.self.now.setup c.args.self.now.history c.args.fact.now))

pub returns-in-Reported : goal.returns-in-Reported
returns-in-Reported c =
    let under : c.broken_report.result ≡ first_broken (tests_under c.args.self.now.setup c.args.self.now.history c.args.self.now.setup.config c.args.fact.now) = rw c.in-Reported.is c.broken_report.ensures in
    under ∙ sym (ap first_broken (tests_are c.args.self.now.setup c.args.self.now.history c.args.fact.now))

pub returns-in-Entered : goal.returns-in-Entered
returns-in-Entered c =
    let under : c.broken_entry.result ≡ first_broken (tests_under c.args.self.now.setup c.args.self.now.history c.args.self.now.setup.config c.args.fact.now) = rw c.in-Entered.is c.broken_entry.ensures in
    under ∙ sym (ap first_broken (tests_are c.args.self.now.setup c.args.self.now.history c.args.fact.now))

pub returns-in-Delivered : goal.returns-in-Delivered
returns-in-Delivered c =
    let under : c.broken_delivery.result ≡ first_broken (tests_under c.args.self.now.setup c.args.self.now.history c.args.self.now.setup.config c.args.fact.now) = rw c.in-Delivered.is c.broken_delivery.ensures in
    under ∙ sym (ap first_broken (tests_are c.args.self.now.setup c.args.self.now.history c.args.fact.now))
