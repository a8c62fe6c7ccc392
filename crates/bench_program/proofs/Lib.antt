mod DecideLemmas
