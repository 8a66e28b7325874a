use Rattle.gft_pass.proofs.roster.Roster.change.Given as goal

-- the change of this call
abbrev pub ghosts-change_listed : goal.ghosts-change_listed
ghosts-change_listed a = record { after = a.after.now }
