use Rattle.shop_app.proofs.driven.drive_with_notes.Given as goal

-- what the gateway told before, and by which reference it is asked
abbrev pub ghosts-drive_and_give_back : goal.ghosts-drive_and_give_back
ghosts-drive_and_give_back g a = record { told = g.G.Gateway.answers a.gateway.now; name = a.gateway.ghost_name }
