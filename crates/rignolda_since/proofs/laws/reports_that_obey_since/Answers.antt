use Rattle.rignolda_since.proofs.Enough.{all_obey}
use Rattle.rignolda_since.proofs.laws.reports_that_obey_since.Goals as goal

pub returns : goal.returns
returns c net lists r tree entries nodes = all_obey net lists r tree nodes entries c.tree_law_of_links_since.ensures.sharper
