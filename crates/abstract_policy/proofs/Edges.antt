-- Each is computed from the definition.
use mathlib.Core.Path.{refl}
use Rattle.abstract_policy.specs.Edges.{EventEdges}
use Rattle.abstract_policy.specs.Interaction.{update_unconstrained_state, detach_charger, disconnect_chargers, disconnect_current, connect_consumer, connect_new_consumer, connect_best, update_current_consumer, post_provider_connected, provide, connect_provider, remove_provider, post_provider_removed, process_psu_event}

pub event_edges : EventEdges
unfolding process_psu_event connect_provider provide post_provider_connected post_provider_removed remove_provider update_current_consumer connect_best connect_new_consumer disconnect_current disconnect_chargers detach_charger connect_consumer update_unconstrained_state
event_edges =
    record {
      P6 = refl;
      P7 = refl;
      P10-connected = refl;
      P10-removed = λ e. refl;
      P10-disconnected = λ e f. refl;
      unchanged_idle = refl;
      error_leaves_figures = refl;
      left_orders = refl;
      left_alone = refl;
    }
