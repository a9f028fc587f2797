-- A run from init, computed: control 7 of channel 3 is set, and a control of a channel that is none is refused with 2.
use mathlib.Core.List.{List, [], ◌∷◌}
use mathlib.Core.Path.{◌≡◌, refl}
use lib.ListN.{get_or}
use Rattle.state.specs.Quiet.{fresh, fresh_channel}
use Rattle.promises.specs.Calls.{Control}
use Rattle.recitals.specs.Turns.{Turn, Direct}
use Rattle.library.specs.Library.{kept_fresh, kept_run}
use Rattle.cabinet.specs.Twins as CabinetTwins
use Rattle.events.specs.Controls as EventsControls

abbrev turns : List Turn
turns = Direct (Control 3 7 50) ∷ Direct (Control 20 7 1) ∷ []

-- the refused call's number stands in C's memory
refused-number : (kept_run turns kept_fresh).number ≡ 2
unfolding kept_run EventsControls.control_change
refused-number = refl

-- and the done call's value is still there
value_stays : (get_or (kept_run turns kept_fresh).player.engine.channels 3 fresh_channel).volume ≡ 50
unfolding kept_run EventsControls.control_change CabinetTwins.player_to CabinetTwins.player_of CabinetTwins.engine_to CabinetTwins.engine_of EventsControls.controlled fresh
value_stays = refl
