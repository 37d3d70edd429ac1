mod Shortness
