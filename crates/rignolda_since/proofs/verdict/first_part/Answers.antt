use Rattle.rignolda_since.proofs.verdict.first_part.Goals as goal

-- the judge, the tree and the report are those that are judged
pub returns-clause-none : goal.returns-clause-none
returns-clause-none c = rw (c.judge-judge.ensures, c.report-report.ensures.value) at c.in_ok-found.ensures.none

pub returns-clause-broken : goal.returns-clause-broken
returns-clause-broken c = rw (c.judge-judge.ensures, c.report-report.ensures.value) at c.in_ok-found.ensures.broken

pub returns-clause-first : goal.returns-clause-first
returns-clause-first c = rw (c.judge-judge.ensures, c.report-report.ensures.value) at c.in_ok-found.ensures.first

pub returns-clause-known : goal.returns-clause-known
returns-clause-known c = rw (c.judge-judge.ensures, c.tree-tree.ensures) at c.in_ok-found.ensures.known
