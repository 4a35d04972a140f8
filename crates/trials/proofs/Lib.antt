-- Lemmas that the answers cite: look-ups, and a step by the trial's verdict.
mod Lookups
mod Acted
mod Weighed
mod Alternatives
