mod HeldEntries
