use Rattle.stab_word.proofs.steps.WordTable.offer_load.Given as goal

-- the type that names the item of this call
abbrev pub ghosts-offer_load_as : goal.ghosts-offer_load_as
ghosts-offer_load_as a = record { item = a.item }
