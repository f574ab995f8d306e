use Rattle.ord_types.proofs.Laws.{has_one_spelling}
use Rattle.ord_types.proofs.ValueLaws.{block_law, cert_law, config_law, header_law, meta_law, report_law, request_law, sig_law}
use Rattle.ord_types.proofs.uniqueness.spellings_are_unique.Goals as goal

pub returns-clause-config : goal.returns-clause-config
returns-clause-config c = has_one_spelling config_law

pub returns-clause-request : goal.returns-clause-request
returns-clause-request c = has_one_spelling request_law

pub returns-clause-meta : goal.returns-clause-meta
returns-clause-meta c = has_one_spelling meta_law

pub returns-clause-header : goal.returns-clause-header
returns-clause-header c = has_one_spelling header_law

pub returns-clause-block : goal.returns-clause-block
returns-clause-block c = has_one_spelling block_law

pub returns-clause-sig : goal.returns-clause-sig
returns-clause-sig c = has_one_spelling sig_law

pub returns-clause-cert : goal.returns-clause-cert
returns-clause-cert c = has_one_spelling cert_law

pub returns-clause-report : goal.returns-clause-report
returns-clause-report c = has_one_spelling report_law
